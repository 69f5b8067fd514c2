-- Lists and options, items and what fills holes, as the code takes them.
use Rattle.std.proofs.Common.{◌≡◌, refl, sym, ap, ◌∙◌, subst, arith, ℕ, ◌+◌, ◌<◌, ◌≤◌, List, [], ◌∷◌, ◌++◌, map, length, drop, get_or, inl}
use Rattle.std.specs.Prelude.{Result, Ok, Err}
use Rattle.std.proofs.lemmas.List.{drop_all}
use Rattle.st_num.specs.declared.span.Span.{Span}
use Rattle.st_num.specs.declared.rule.RuleId.TheVariants.{Y1}
use Rattle.st_el.specs.declared.expression.Exp.{Exp}
use Rattle.st_il.specs.declared.ty.Ty.{Ty, out-Ty, roll-Ty, roll-out-Ty}
use Rattle.st_il.specs.declared.ty.Ty.TheOpen.{Ty-F}
use Rattle.st_il.specs.declared.ty.Ty.TheVariants as ty
use Rattle.st_il.specs.declared.expression.IlExp.{IlExp}
use Rattle.st_il.specs.declared.expression.IlExp.TheVariants as il
use Rattle.st_il.specs.declared.expression.ListItem.{ListItem}
use Rattle.st_type_table.specs.Meaning.{Means}
use Rattle.st_notation.specs.declared.filled.Filled.{Filled}
use Rattle.st_notation.specs.Fits.{Filling}
use Rattle.st_notation.specs.Fitted.{plain, fillings}
use Rattle.st_elab_table.specs.declared.decls.Decls.{Decls}
use Rattle.st_elab_table.specs.declared.decls.Scope.{Scope}
use Rattle.st_dims.specs.declared.within.Within.{Within}
use Rattle.st_elab_table.specs.Questions.{Manner, Question, item, hole, Made, Breach, Answer, Gives, Fails, Step, Opens}
use Rattle.st_elab_table.specs.Steps.{breach, give, pass, asked, holes_behind, each_asked, exp_of, list_of_one}
use Rattle.st_elab_table.specs.Collections.{element, other_row, eps_row, sequence, item_of, item_row, run_at, run_row}
use Rattle.st_elab_table.specs.Elaboration.{Leads, Answered, by_row, ends, goes_on, stops, opens}
use Rattle.st_num.specs.declared.fault.Fault.{Fault as ExpFault}
use Rattle.st_num.specs.declared.fault.Fault.TheVariants as fault
use Rattle.st_elab_rows.specs.declared.asking.Context.{Context}
use Rattle.st_elab_table.specs.Parts.{Breaks, AskedAs}
use Rattle.st_elab_rows.specs.inner.Continuing.{Continues, LeadsToItem}
use Rattle.st_elab_rows.proofs.Builds.{from_place, questions_from, continues_more, continues_ends}

other_no : (w : Within) (at : Span) (p : Manner) (e : Exp) (t u : Ty) → ((x : Ty) → u ≡ ty.List x → ⊥) → ((x : Ty) → u ≡ ty.Opt x → ⊥)
    → other_row w at p e t (out-Ty u) ≡ breach at Y1
other_no w at p e t u list option = go (out-Ty u) refl
  where
    go : (y : Ty-F Ty) → out-Ty u ≡ y → other_row w at p e t y ≡ breach at Y1
    go (Ty-F.List x) o = absurd (list x (sym (roll-out-Ty u) ∙ (ap roll-Ty o ∙ ty.rolls-List x)))
    go (Ty-F.Opt x) o = absurd (option x (sym (roll-out-Ty u) ∙ (ap roll-Ty o ∙ ty.rolls-Opt x)))
    go y o = refl

eps_no : (at : Span) (t u : Ty) → ((x : Ty) → u ≡ ty.List x → ⊥) → ((x : Ty) → u ≡ ty.Opt x → ⊥) → eps_row at t (out-Ty u) ≡ breach at Y1
eps_no at t u list option = go (out-Ty u) refl
  where
    go : (y : Ty-F Ty) → out-Ty u ≡ y → eps_row at t y ≡ breach at Y1
    go (Ty-F.List x) o = absurd (list x (sym (roll-out-Ty u) ∙ (ap roll-Ty o ∙ ty.rolls-List x)))
    go (Ty-F.Opt x) o = absurd (option x (sym (roll-out-Ty u) ∙ (ap roll-Ty o ∙ ty.rolls-Opt x)))
    go y o = refl

run_no : (w : Within) (at : Span) (es : List Exp) (t u : Ty) → ((x : Ty) → u ≡ ty.List x → ⊥) → run_at w at es t (out-Ty u) ≡ breach at Y1
run_no w at es t u list = go (out-Ty u) refl
  where
    go : (y : Ty-F Ty) → out-Ty u ≡ y → run_at w at es t y ≡ breach at Y1
    go (Ty-F.List x) o = absurd (list x (sym (roll-out-Ty u) ∙ (ap roll-Ty o ∙ ty.rolls-List x)))
    go y o = refl

-- two elements or more
many : (w : Within) (at : Span) (passed : List (List ℕ)) (es : List Exp) (t : Ty) → 2 ≤ length es → run_row w at passed es t ≡ Opens t (λ u. run_at w at es t (out-Ty u))
many w at passed [] t h = absurd (omega arith)
many w at passed (e ∷ []) t h = absurd (omega arith)
many w at passed (e ∷ f ∷ es) t h = refl

-- one element
pub only_one : (es : List Exp) (e : Exp) → 1 ≤ length es → length es < 2 → e ≡ get_or es 0 e → es ≡ e ∷ []
only_one [] e h k is = absurd (omega arith)
only_one (x ∷ []) e h k is = ap (λ z. z ∷ []) (sym is)
only_one (x ∷ y ∷ es) e h k is = absurd (omega arith)

pub empty : {A : Type 0} (xs : List A) → length xs < 1 → xs ≡ []
empty [] h = refl
empty (x ∷ xs) h = absurd (omega arith)

module _ (D : Decls) (S : Scope) where
  -- ---- one element

  pub other_list : (w : Within) (at : Span) (p : Manner) (e : Exp) (t u x : Ty) (a : Answer) → u ≡ ty.List x
      → Leads D S (element w at p e t x (list_of_one x)) a → Leads D S (other_row w at p e t (out-Ty u)) a
  other_list w at p e t u x a is h = subst (λ z. Leads D S (other_row w at p e t z) a) (sym (ap out-Ty is ∙ ty.outs-List x)) h

  pub other_option : (w : Within) (at : Span) (p : Manner) (e : Exp) (t u x : Ty) (a : Answer) → u ≡ ty.Opt x
      → Leads D S (element w at p e t x il.Present) a → Leads D S (other_row w at p e t (out-Ty u)) a
  other_option w at p e t u x a is h = subst (λ z. Leads D S (other_row w at p e t z) a) (sym (ap out-Ty is ∙ ty.outs-Opt x)) h

  pub other_fails : (w : Within) (at : Span) (p : Manner) (e : Exp) (t u : Ty) → ((x : Ty) → u ≡ ty.List x → ⊥) → ((x : Ty) → u ≡ ty.Opt x → ⊥)
      → Leads D S (other_row w at p e t (out-Ty u)) (Fails (record { at = at; rule = Y1 }))
  other_fails w at p e t u list option =
      subst (λ z. Leads D S z (Fails (record { at = at; rule = Y1 }))) (sym (other_no w at p e t u list option)) ends

  -- ---- `eps`

  pub eps_list : (at : Span) (t u x : Ty) (a : Answer) → u ≡ ty.List x → Leads D S (give (il.List x []) t) a → Leads D S (eps_row at t (out-Ty u)) a
  eps_list at t u x a is h = subst (λ z. Leads D S (eps_row at t z) a) (sym (ap out-Ty is ∙ ty.outs-List x)) h

  pub eps_option : (at : Span) (t u x : Ty) (a : Answer) → u ≡ ty.Opt x → Leads D S (give (il.Empty x) t) a → Leads D S (eps_row at t (out-Ty u)) a
  eps_option at t u x a is h = subst (λ z. Leads D S (eps_row at t z) a) (sym (ap out-Ty is ∙ ty.outs-Opt x)) h

  pub eps_fails : (at : Span) (t u : Ty) → ((x : Ty) → u ≡ ty.List x → ⊥) → ((x : Ty) → u ≡ ty.Opt x → ⊥)
      → Leads D S (eps_row at t (out-Ty u)) (Fails (record { at = at; rule = Y1 }))
  eps_fails at t u list option =
      subst (λ z. Leads D S z (Fails (record { at = at; rule = Y1 }))) (sym (eps_no at t u list option)) ends

  -- ---- items

  pub item_more : (w : Within) (t x : Ty) (es : List Exp) (i : ℕ) (e : Exp) (so_far now : List ListItem) (part : ListItem) → i < length es → e ≡ get_or es i e → now ≡ so_far ++ part ∷ []
      → Continues D S (map (item w t x) es) (map (item w t x) (drop i es)) ListItem item_of so_far
      → (m : Made) × Leads D S (item_row w t x e) (Gives m) × (item_of m ≡ part)
      → Continues D S (map (item w t x) es) (map (item w t x) (drop (i + 1) es)) ListItem item_of now
  item_more w t x es i e so_far now part inside is pushed c h =
      let all = map (item w t x) es in
      let left = map (item w t x) (drop (i + 1) es) in
      subst (λ z. Continues D S all left ListItem item_of z) (sym (pushed ∙ ap (λ z. so_far ++ z ∷ []) (sym h.2)))
      (continues_more D S all left (item w t x e) item_of so_far h.0
      (subst (λ z. Continues D S all z ListItem item_of so_far) (questions_from (item w t x) es i e inside is) c) (by_row h.1))

  pub item_stops : (w : Within) (t x : Ty) (es : List Exp) (i : ℕ) (e : Exp) (so_far : List ListItem) (b : Breach) → i < length es → e ≡ get_or es i e
      → Continues D S (map (item w t x) es) (map (item w t x) (drop i es)) ListItem item_of so_far
      → Leads D S (item_row w t x e) (Fails b) → Breaks D S (map (item w t x) es) b
  item_stops w t x es i e so_far b inside is c h =
      c.breaks b (subst (λ z. Breaks D S z b) (sym (questions_from (item w t x) es i e inside is)) (inl (by_row h)))

  -- ---- runs

  pub run_list : (w : Within) (at : Span) (passed : List (List ℕ)) (es : List Exp) (t u x : Ty) (a : Answer) → 2 ≤ length es
      → Means D.types t u → u ≡ ty.List x → Leads D S (sequence w at es t x) a → Leads D S (run_row w at passed es t) a
  run_list w at passed es t u x a more means is h =
      subst (λ z. Leads D S z a) (sym (many w at passed es t more))
      (opens u means (subst (λ z. Leads D S (run_at w at es t z) a) (sym (ap out-Ty is ∙ ty.outs-List x)) h))

  pub run_fails : (w : Within) (at : Span) (passed : List (List ℕ)) (es : List Exp) (t u : Ty) → 2 ≤ length es
      → Means D.types t u → ((x : Ty) → u ≡ ty.List x → ⊥) → Leads D S (run_row w at passed es t) (Fails (record { at = at; rule = Y1 }))
  run_fails w at passed es t u more means list =
      subst (λ z. Leads D S z (Fails (record { at = at; rule = Y1 }))) (sym (many w at passed es t more))
      (opens u means (subst (λ z. Leads D S z (Fails (record { at = at; rule = Y1 }))) (sym (run_no w at es t u list)) ends))

  -- ---- holes and arguments

  -- the next question is answered
  pub next_answered : (all left more : List Question) (q : Question) (so_far now : List IlExp) (x : IlExp) (m : Made) → left ≡ q ∷ more → x ≡ m.exp → now ≡ so_far ++ x ∷ []
      → Continues D S all left IlExp exp_of so_far → Answered D S q (Gives m) → Continues D S all more IlExp exp_of now
  next_answered all left more q so_far now x m is made pushed c h =
      subst (λ z. Continues D S all more IlExp exp_of z) (sym (pushed ∙ ap (λ z. so_far ++ z ∷ []) made))
      (continues_more D S all more q exp_of so_far m (subst (λ z. Continues D S all z IlExp exp_of so_far) is c) h)

  -- the next question is answered by a breach
  pub next_breaks : (all left more : List Question) (q : Question) (so_far : List IlExp) (b : Breach) → left ≡ q ∷ more
      → Continues D S all left IlExp exp_of so_far → Answered D S q (Fails b) → Breaks D S all b
  next_breaks all left more q so_far b is c h = c.breaks b (subst (λ z. Breaks D S z b) (sym is) (inl h))

  -- no question is left
  pub none_left : (all left : List Question) (so_far : List IlExp) → left ≡ [] → Continues D S all left IlExp exp_of so_far → AskedAs D S all IlExp exp_of so_far
  none_left all left so_far is c = continues_ends D S all exp_of so_far (subst (λ z. Continues D S all z IlExp exp_of so_far) is c)

  -- what another question is answered by
  pub passed : (q : Question) (a : Answer) → Leads D S (pass q) a → Answered D S q a
  passed q a (goes_on m h ends) = h
  passed q a (stops b h) = h

pub next_hole : (w : Within) (at : Span) (passed : List (List ℕ)) (filled : List Filled) (ts others : List Ty) (i : ℕ) (f : Filled) (t : Ty) → i < length filled → f ≡ get_or filled i f → ts ≡ t ∷ others
    → holes_behind w at passed (fillings (drop i filled)) ts ≡ hole w at passed (plain f) t ∷ holes_behind w at passed (fillings (drop (i + 1) filled)) others
next_hole w at passed filled ts others i f t inside is taken = rw (from_place filled i f inside is, taken)

pub same_holes : (w : Within) (at : Span) (ps qs : List (List ℕ)) (fs gs : List Filled) (ts us : List Ty) → ps ≡ qs → fs ≡ gs → ts ≡ us
    → holes_behind w at ps (fillings fs) ts ≡ holes_behind w at qs (fillings gs) us
same_holes w at ps qs fs gs ts us p f t = λ i. holes_behind w at (p i) (fillings (f i)) (t i)

pub next_argument : (w : Within) (es : List Exp) (ts others : List Ty) (i : ℕ) (e : Exp) (t : Ty) → i < length es → e ≡ get_or es i e → ts ≡ t ∷ others
    → each_asked w (drop i es) ts ≡ asked w e t ∷ each_asked w (drop (i + 1) es) others
next_argument w es ts others i e t inside is taken = rw (from_place es i e inside is, taken)

-- there is no hole left
pub no_hole : (w : Within) (at : Span) (passed : List (List ℕ)) (fs : List Filling) (ts : List Ty) → ts ≡ [] → holes_behind w at passed fs ts ≡ []
no_hole w at passed [] ts is = refl
no_hole w at passed (f ∷ fs) ts is = ap (holes_behind w at passed (f ∷ fs)) is

pub no_argument : (w : Within) (es : List Exp) (ts : List Ty) → ts ≡ [] → each_asked w es ts ≡ []
no_argument w [] ts is = refl
no_argument w (e ∷ es) ts is = ap (each_asked w (e ∷ es)) is

-- an item to which other steps lead
pub item_leads : (x : Context) (s u : Step) (r : Result ListItem ExpFault) → ((a : Answer) → Leads x.decls.now x.scope.now s a → Leads x.decls.now x.scope.now u a)
    → LeadsToItem x s r → LeadsToItem x u r
item_leads x s u (Ok part) on h = (h.0, on (Gives h.0) h.1, h.2)
item_leads x s u (Err (fault.Refused at rule)) on h = on (Fails (record { at = at; rule = rule })) h
item_leads x s u (Err fault.Memory) on h = tt

-- all fillings are asked
pub holes_end : (w : Within) (at : Span) (passed : List (List ℕ)) (filled : List Filled) (ts : List Ty) (i : ℕ) → length filled ≤ i → holes_behind w at passed (fillings (drop i filled)) ts ≡ []
holes_end w at passed filled ts i over = ap (λ z. holes_behind w at passed (fillings z) ts) (drop_all i filled over)

pub arguments_end : (w : Within) (es : List Exp) (ts : List Ty) (i : ℕ) → length es ≤ i → each_asked w (drop i es) ts ≡ []
arguments_end w es ts i over = ap (λ z. each_asked w z ts) (drop_all i es over)
