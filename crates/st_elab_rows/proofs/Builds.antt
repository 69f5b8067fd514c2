-- Answers, built row by row.
use Rattle.std.proofs.Common.{◌≡◌, refl, sym, ap, ◌∙◌, subst, ℕ, ◌+◌, ◌<◌, List, [], ◌∷◌, ◌++◌, map, length, drop, get_or, suc, add-one, drop-cons, append_assoc, append-nil, Bool, true, false, inl, inr, if◌then◌else◌}
use Rattle.std.specs.Prelude.{Result, Ok, Err}
use Rattle.st_num.specs.declared.span.Span.{Span}
use Rattle.st_num.specs.declared.rule.RuleId.TheVariants.{Y3}
use Rattle.st_el.specs.declared.expression.Exp.{Exp}
use Rattle.st_el.specs.declared.expression.Node.{Node, out-Node}
use Rattle.st_el.specs.declared.expression.Count.{Count}
use Rattle.st_el.specs.declared.expression.Count.TheOpen.{Node-F}
use Rattle.st_el.specs.declared.expression.Seg.{Seg}
use Rattle.st_il.specs.declared.ty.Ty.{Ty}
use Rattle.st_il.specs.declared.expression.IlExp.{IlExp}
use Rattle.st_type_table.specs.Meaning.{Means}
use Rattle.st_notation.specs.Elements.{node_of, opened}
use Rattle.st_elab_table.specs.declared.decls.Decls.{Decls}
use Rattle.st_elab_table.specs.declared.decls.Scope.{Scope}
use Rattle.st_dims.specs.declared.within.Within.{Within}
use Rattle.st_num.specs.declared.fault.Fault.{Fault as ExpFault}
use Rattle.st_num.specs.declared.fault.Fault.TheVariants as fault
use Rattle.st_elab_table.specs.Forms.{inferable}
use Rattle.st_elab_table.specs.Questions.{Manner, Question, check, infer, Made, Breach, Answer, Gives, Fails, Step, Ends, Asks, Opens, asks}
use Rattle.st_elab_table.specs.Steps.{breach, made, give, pass, asked, each_asked, fitted}
use Rattle.st_elab_table.specs.Checked.{form_row, plain_row, checked_row}
use Rattle.st_elab_table.specs.Inferred.{inferred_at}
use Rattle.st_elab_table.specs.Elaboration.{row, Answered, Leads, by_row, ends, goes_on, stops, opens}
use Rattle.st_elab_rows.specs.Told.{Told, Tells, Leading, Reaches, TellsAll}
use Rattle.st_elab_table.specs.Parts.{Asked, Breaks, AskedAs}
use Rattle.st_elab_rows.specs.inner.Continuing.{Continues}

-- a fault is handed on
pub Told-stops : {A B : Type 0} (P : A → Type 0) (Q : B → Type 0) (F G : Breach → Type 0) (r : Result A ExpFault) (s : Result B ExpFault) (e : ExpFault)
    → r ≡ Err e → s ≡ Err e → ((b : Breach) → F b → G b) → Told P F r → Told Q G s
Told-stops P Q F G r s (fault.Refused at rule) is out f h =
    subst (Told Q G) (sym out) (f (record { at = at; rule = rule }) (subst (Told P F) is h))
Told-stops P Q F G r s fault.Memory is out f h = subst (Told Q G) (sym out) tt

-- what is found is handed on
pub Told-found : {A : Type 0} (P : A → Type 0) (F : Breach → Type 0) (r : Result A ExpFault) (x : A) → r ≡ Ok x → Told P F r → P x
Told-found P F r x is h = subst (Told P F) is h

-- one level of an expression
pub opened_is : (e : Exp) (n : Node) (x : Node-F Count Node Seg Exp) → node_of e ≡ n → out-Node n ≡ x → opened e ≡ x
opened_is e n x is out = ap out-Node is ∙ out

module _ (D : Decls) (S : Scope) where
  -- ---- steps

  pub leads_is : (s u : Step) (a : Answer) → s ≡ u → Leads D S u a → Leads D S s a
  leads_is s u a e h = subst (λ z. Leads D S z a) (sym e) h

  pub leading_is : {A : Type 0} (s u : Step) (f : A → Made) (r : Result A ExpFault) → s ≡ u → Leading D S u f r → Leading D S s f r
  leading_is s u f r e h = subst (λ z. Leading D S z f r) (sym e) h

  -- the steps of a row
  pub tells_row : {A : Type 0} (q : Question) (f : A → Made) (r : Result A ExpFault) → Leading D S (row D S q) f r → Tells D S q f r
  tells_row q f (Ok x) h = by_row h
  tells_row q f (Err (fault.Refused at rule)) h = by_row h
  tells_row q f (Err fault.Memory) h = tt

  -- steps that lead where others lead
  pub leading_by : {A : Type 0} (s u : Step) (f : A → Made) (r : Result A ExpFault) → ((a : Answer) → Leads D S s a → Leads D S u a) → Leading D S s f r → Leading D S u f r
  leading_by s u f (Ok x) on h = on (Gives (f x)) h
  leading_by s u f (Err (fault.Refused at rule)) on h = on (Fails (record { at = at; rule = rule })) h
  leading_by s u f (Err fault.Memory) on h = tt

  pub gives_end : (x y : IlExp) (t u : Ty) → x ≡ y → t ≡ u → Leads D S (give x t) (Gives (made y u))
  gives_end x y t u e g = subst (λ z. Leads D S (give x t) (Gives (made z u))) e (subst (λ z. Leads D S (give x t) (Gives (made x z))) g ends)

  -- a fault in a question that is asked
  pub leading_stops : {A B : Type 0} (q : Question) (next : Made → Step) (f : A → Made) (g : B → Made) (r : Result B ExpFault) (s : Result A ExpFault) (e : ExpFault)
      → r ≡ Err e → s ≡ Err e → Tells D S q g r → Leading D S (Asks q next) f s
  leading_stops q next f g r s e is out h =
      Told-stops (λ x. Answered D S q (Gives (g x))) (λ x. Leads D S (Asks q next) (Gives (f x))) (λ b. Answered D S q (Fails b)) (λ b. Leads D S (Asks q next) (Fails b)) r s e is out
      (λ b k. stops b k) h

  -- a question that is answered
  pub asks_reach : {A : Type 0} (q : Question) (f : A → Made) (r : Result A ExpFault) → Tells D S q f r → Reaches D S (λ next. Asks q next) f r
  asks_reach q f (Ok x) h = λ next a l. goes_on (f x) h l
  asks_reach q f (Err (fault.Refused at rule)) h = λ next. stops (record { at = at; rule = rule }) h
  asks_reach q f (Err fault.Memory) h = tt

  -- the answer to a question, and what follows
  pub leading_goes : {A : Type 0} (q : Question) (next : Made → Step) (m : Made) (f : A → Made) (r : Result A ExpFault)
      → Answered D S q (Gives m) → Leading D S (next m) f r → Leading D S (Asks q next) f r
  leading_goes q next m f r g h = leading_by (next m) (Asks q next) f r (λ a l. goes_on m g l) h

  -- the answer to another question is the answer
  pub leading_pass : {A : Type 0} (q : Question) (f : A → Made) (r : Result A ExpFault) → Tells D S q f r → Leading D S (pass q) f r
  leading_pass q f (Ok x) h = goes_on (f x) h ends
  leading_pass q f (Err (fault.Refused at rule)) h = stops (record { at = at; rule = rule }) h
  leading_pass q f (Err fault.Memory) h = tt

  -- what a type means
  pub leading_opens : {A : Type 0} (t u : Ty) (next : Ty → Step) (f : A → Made) (r : Result A ExpFault) → Means D.types t u → Leading D S (next u) f r → Leading D S (Opens t next) f r
  leading_opens t u next f r m h = leading_by (next u) (Opens t next) f r (λ a l. opens u m l) h

  -- steps that are reached by other calls
  pub reaches_stops : {A B X : Type 0} (steps : (X → Step) → Step) (next : X → Step) (f : A → Made) (g : B → X) (r : Result B ExpFault) (s : Result A ExpFault) (e : ExpFault)
      → r ≡ Err e → s ≡ Err e → Reaches D S steps g r → Leading D S (steps next) f s
  reaches_stops steps next f g r s e is out h =
      Told-stops (λ x. (next : _ → Step) (a : Answer) → Leads D S (next (g x)) a → Leads D S (steps next) a) (λ x. Leads D S (steps next) (Gives (f x)))
      (λ b. (next : _ → Step) → Leads D S (steps next) (Fails b)) (λ b. Leads D S (steps next) (Fails b)) r s e is out (λ b k. k next) h

  pub reaches_goes : {A B X : Type 0} (steps : (X → Step) → Step) (next : X → Step) (f : A → Made) (g : B → X) (r : Result B ExpFault) (x : B) (s : Result A ExpFault)
      → r ≡ Ok x → Reaches D S steps g r → Leading D S (next (g x)) f s → Leading D S (steps next) f s
  reaches_goes steps next f g r x s is h k =
      let on : (next : _ → Step) (a : Answer) → Leads D S (next (g x)) a → Leads D S (steps next) a =
      Told-found (λ x. (next : _ → Step) (a : Answer) → Leads D S (next (g x)) a → Leads D S (steps next) a) (λ b. (next : _ → Step) → Leads D S (steps next) (Fails b)) r x is h in
      leading_by (next (g x)) (steps next) f s (on next) k

  -- the answer to a question that is asked is the answer
  pub pass_reach : {A : Type 0} (q : Question) (f : A → Made) (r : Result A ExpFault) → Reaches D S (λ next. Asks q next) f r → Leading D S (pass q) f r
  pass_reach q f (Ok x) h = h (λ m. Ends (Gives m)) (Gives (f x)) ends
  pass_reach q f (Err (fault.Refused at rule)) h = h (λ m. Ends (Gives m))
  pass_reach q f (Err fault.Memory) h = tt

  -- what is given is this
  pub gives_made : (x : IlExp) (t : Ty) (m : Made) → m ≡ made x t → Leads D S (give x t) (Gives m)
  gives_made x t m e = subst (λ z. Leads D S (give x t) (Gives z)) (sym e) ends

  pub leads_three : {A B C : Type 0} (next : A → B → C → Step) (n m : A) (x y : B) (z w : C) (a : Answer)
      → n ≡ m → x ≡ y → z ≡ w → Leads D S (next n x z) a → Leads D S (next m y w) a
  leads_three next n m x y z w a e f g h =
      subst (λ k. Leads D S (next k y w) a) e (subst (λ k. Leads D S (next n k w) a) f (subst (λ k. Leads D S (next n x k) a) g h))

  pub gives_is : (s : Step) (m n : Made) → n ≡ m → Leads D S s (Gives m) → Leads D S s (Gives n)
  gives_is s m n e h = subst (λ z. Leads D S s (Gives z)) (sym e) h

  -- a test of the table
  pub leads_then : (b : Bool) (s u : Step) (a : Answer) → b ≡ true → Leads D S s a → Leads D S (if b then s else u) a
  leads_then b s u a e h = subst (λ z. Leads D S (if z then s else u) a) (sym e) h

  pub leads_else : (b : Bool) (s u : Step) (a : Answer) → b ≡ false → Leads D S u a → Leads D S (if b then s else u) a
  leads_else b s u a e h = subst (λ z. Leads D S (if z then s else u) a) (sym e) h

  -- ---- rows

  pub infers : {A : Type 0} (w : Within) (at : Span) (e : Exp) (x : Node-F Count Node Seg Exp) (f : A → Made) (r : Result A ExpFault)
      → inferable e ≡ true → opened e ≡ x → Leading D S (inferred_at D S w at x) f r → Tells D S (infer w at e) f r
  infers w at e x f r i o h = tells_row (infer w at e) f r
      (leading_is (row D S (infer w at e)) (inferred_at D S w at x) f r
      (ap (λ b. if b then inferred_at D S w at (opened e) else breach at Y3) i ∙ ap (inferred_at D S w at) o) h)

  pub infer_fails : (w : Within) (at : Span) (e : Exp) → inferable e ≡ false → Answered D S (infer w at e) (Fails (record { at = at; rule = Y3 }))
  infer_fails w at e i = by_row (leads_is (row D S (infer w at e)) (breach at Y3) (Fails (record { at = at; rule = Y3 }))
      (ap (λ b. if b then inferred_at D S w at (opened e) else breach at Y3) i) ends)

  pub checks : {A : Type 0} (w : Within) (at : Span) (p : Manner) (e : Exp) (t : Ty) (x : Node-F Count Node Seg Exp) (f : A → Made) (r : Result A ExpFault)
      → opened e ≡ x → Leading D S (checked_row D S w at p e t x) f r → Tells D S (check w at p e t) f r
  checks w at p e t x f r o h = tells_row (check w at p e t) f r
      (leading_is (row D S (check w at p e t)) (checked_row D S w at p e t x) f r (ap (checked_row D S w at p e t) o) h)

  pub plain_inferable : {A : Type 0} (w : Within) (at : Span) (p : Manner) (e : Exp) (t : Ty) (f : A → Made) (r : Result A ExpFault)
      → inferable e ≡ true → Leading D S (Asks (infer w at e) (fitted at t)) f r → Leading D S (plain_row D S w at p e t) f r
  plain_inferable w at p e t f r i h =
      leading_is (plain_row D S w at p e t) (Asks (infer w at e) (fitted at t)) f r
      (ap (λ b. if b then Asks (infer w at e) (fitted at t) else Opens t (λ u. form_row D S w at p e t u (opened e))) i) h

  pub plain_form : {A : Type 0} (w : Within) (at : Span) (p : Manner) (e : Exp) (t u : Ty) (x : Node-F Count Node Seg Exp) (f : A → Made) (r : Result A ExpFault)
      → inferable e ≡ false → opened e ≡ x → Means D.types t u → Leading D S (form_row D S w at p e t u x) f r → Leading D S (plain_row D S w at p e t) f r
  plain_form w at p e t u x f r i o m h =
      leading_is (plain_row D S w at p e t) (Opens t (λ u. form_row D S w at p e t u (opened e))) f r
      (ap (λ b. if b then Asks (infer w at e) (fitted at t) else Opens t (λ u. form_row D S w at p e t u (opened e))) i)
      (leading_opens t u (λ u. form_row D S w at p e t u (opened e)) f r m
      (leading_is (form_row D S w at p e t u (opened e)) (form_row D S w at p e t u x) f r (ap (form_row D S w at p e t u) o) h))

  -- ---- several questions

  pub all_asked : (qs : List Question) (ms : List Made) (next : List Made → Step) (a : Answer) → Asked D S qs ms → Leads D S (next ms) a → Leads D S (asks qs next) a
  all_asked [] [] next a h l = l
  all_asked [] (m ∷ ms) next a h l = absurd h
  all_asked (q ∷ qs) [] next a h l = absurd h
  all_asked (q ∷ qs) (m ∷ ms) next a h l = goes_on m h.0 (all_asked qs ms (λ ms. next (m ∷ ms)) a h.1 l)

  pub leads_asks : {A : Type 0} (qs : List Question) (part : Made → A) (xs : List A) (last : List A → Step) (a : Answer)
      → AskedAs D S qs A part xs → Leads D S (last xs) a → Leads D S (asks qs (λ ms. last (map part ms))) a
  leads_asks qs part xs last a h l = all_asked qs h.mades (λ ms. last (map part ms)) a h.asked (subst (λ z. Leads D S (last z) a) (sym h.parts) l)

  pub leads_breaks : (qs : List Question) (next : List Made → Step) (b : Breach) → Breaks D S qs b → Leads D S (asks qs next) (Fails b)
  leads_breaks [] next b h = absurd h
  leads_breaks (q ∷ qs) next b (inl h) = stops b h
  leads_breaks (q ∷ qs) next b (inr h) = goes_on h.0 h.1 (leads_breaks qs (λ ms. next (h.0 ∷ ms)) b h.2)

  pub leading_breaks : {A B : Type 0} (qs : List Question) (next : List Made → Step) (part : Made → B) (f : A → Made) (r : Result (List B) ExpFault) (s : Result A ExpFault) (e : ExpFault)
      → r ≡ Err e → s ≡ Err e → TellsAll D S qs part r → Leading D S (asks qs next) f s
  leading_breaks {A} {B} qs next part f r s e is out h =
      Told-stops (λ xs. AskedAs D S qs B part xs) (λ x. Leads D S (asks qs next) (Gives (f x))) (λ b. Breaks D S qs b) (λ b. Leads D S (asks qs next) (Fails b)) r s e is out
      (λ b k. leads_breaks qs next b k) h

  -- ---- loops over questions

  pub continues_begin : {A : Type 0} (all : List Question) (part : Made → A) → Continues D S all all A part []
  continues_begin all part = record { gives = λ xs g. g; breaks = λ b g. g }

  pub continues_more : {A : Type 0} (all left : List Question) (q : Question) (part : Made → A) (so_far : List A) (m : Made)
      → Continues D S all (q ∷ left) A part so_far → Answered D S q (Gives m) → Continues D S all left A part (so_far ++ part m ∷ [])
  continues_more {A} all left q part so_far m c h = record {
    gives = λ xs g. subst (λ z. AskedAs D S all A part z) (sym (append_assoc so_far (part m ∷ []) xs))
        (c.gives (part m ∷ xs) (record { mades = m ∷ g.mades; asked = (h, g.asked); parts = ap (λ z. part m ∷ z) g.parts }));
    breaks = λ b g. c.breaks b (inr (m, h, g));
  }

  pub continues_ends : {A : Type 0} (all : List Question) (part : Made → A) (so_far : List A) → Continues D S all [] A part so_far → AskedAs D S all A part so_far
  continues_ends {A} all part so_far c =
      subst (λ z. AskedAs D S all A part z) (append-nil so_far) (c.gives [] (record { mades = []; asked = tt; parts = refl }))

  pub continues_stops : {A B : Type 0} (all left : List Question) (q : Question) (part : Made → A) (so_far : List A) (g : B → Made) (r : Result B ExpFault) (s : Result (List A) ExpFault) (e : ExpFault)
      → r ≡ Err e → s ≡ Err e → Continues D S all (q ∷ left) A part so_far → Tells D S q g r → TellsAll D S all part s
  continues_stops {A} {B} all left q part so_far g r s e is out c h =
      Told-stops (λ x. Answered D S q (Gives (g x))) (λ xs. AskedAs D S all A part xs) (λ b. Answered D S q (Fails b)) (λ b. Breaks D S all b) r s e is out
      (λ b k. c.breaks b (inl k)) h

-- ---- lists of questions, from a place on

pub from_place : {A : Type 0} (xs : List A) (i : ℕ) (x : A) → i < length xs → x ≡ get_or xs i x → drop i xs ≡ x ∷ drop (i + 1) xs
from_place xs i x h is = rw (add-one, drop-cons xs i x) (ap (λ z. z ∷ drop (suc i) xs) (sym is))

pub each_asked_from : (w : Within) (es : List Exp) (ts : List Ty) (i : ℕ) (e : Exp) (t : Ty) → i < length es → e ≡ get_or es i e → i < length ts → t ≡ get_or ts i t
    → each_asked w (drop i es) (drop i ts) ≡ asked w e t ∷ each_asked w (drop (i + 1) es) (drop (i + 1) ts)
each_asked_from w es ts i e t h is k js = rw (from_place es i e h is, from_place ts i t k js)

pub questions_from : {A : Type 0} (ask : A → Question) (xs : List A) (i : ℕ) (x : A) → i < length xs → x ≡ get_or xs i x
    → map ask (drop i xs) ≡ ask x ∷ map ask (drop (i + 1) xs)
questions_from ask xs i x h is = ap (map ask) (from_place xs i x h is)
