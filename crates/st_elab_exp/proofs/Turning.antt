-- Iterations, as the code takes them.
use Rattle.std.proofs.Common.{◌≡◌, refl, sym, ap, ◌∙◌, subst, ℕ, List, length, true, false}
use Rattle.st_num.specs.declared.span.Span.{Span}
use Rattle.st_el.specs.declared.expression.Exp.{Exp}
use Rattle.st_el.specs.declared.expression.Count.{Count, out-Count}
use Rattle.st_il.specs.declared.ty.Ty.{Ty, out-Ty, roll-Ty, roll-out-Ty}
use Rattle.st_il.specs.declared.ty.Ty.TheOpen.{Ty-F}
use Rattle.st_il.specs.declared.ty.Ty.TheVariants as ty
use Rattle.st_il.specs.declared.expression.IlExp.{IlExp}
use Rattle.st_il.specs.Occurrences.{occurs}
use Rattle.st_elab_table.specs.declared.decls.Decls.{Decls}
use Rattle.st_elab_table.specs.declared.decls.Scope.{Scope}
use Rattle.st_dims.specs.declared.within.Within.{Within}
use Rattle.st_elab_table.specs.Forms.{goes_over_list}
use Rattle.st_dims.specs.Around.{inside}
use Rattle.st_elab_table.specs.Iterations.{iterated_type, iterated_in, iterated}
use Rattle.st_elab_table.specs.Questions.{Manner, Made, Answer, Step, Asks}
use Rattle.st_elab_table.specs.Steps.{asked, found}
use Rattle.st_elab_table.specs.Collections.{other_row, iteration, body_row, iteration_row}
use Rattle.st_elab_table.specs.Inferred.{inferred_iteration}
use Rattle.st_elab_table.specs.Elaboration.{Leads}
use Rattle.st_elab_rows.proofs.Builds.{leads_then, leads_else}

module _ (D : Decls) (S : Scope) where
  pub turn_list : (w : Within) (at : Span) (p : Manner) (e b : Exp) (c : Count) (t u x : Ty) (a : Answer) → u ≡ ty.List x → goes_over_list (out-Count c) ≡ true
      → Leads D S (body_row S w b c x t) a → Leads D S (iteration_row S w at p e b c t (out-Ty u)) a
  turn_list w at p e b c t u x a is goes h =
      subst (λ z. Leads D S (iteration_row S w at p e b c t z) a) (sym (ap out-Ty is ∙ ty.outs-List x)) (leads_then D S _ _ _ a goes h)

  pub turn_option : (w : Within) (at : Span) (p : Manner) (e b : Exp) (c : Count) (t u x : Ty) (a : Answer) → u ≡ ty.Opt x → goes_over_list (out-Count c) ≡ false
      → Leads D S (body_row S w b c x t) a → Leads D S (iteration_row S w at p e b c t (out-Ty u)) a
  turn_option w at p e b c t u x a is goes h =
      subst (λ z. Leads D S (iteration_row S w at p e b c t z) a) (sym (ap out-Ty is ∙ ty.outs-Opt x)) (leads_else D S _ _ _ a goes h)

  -- an iteration that goes over no list, at a list, is one element
  pub element_of_list : (w : Within) (at : Span) (p : Manner) (e b : Exp) (c : Count) (t u x : Ty) (a : Answer) → u ≡ ty.List x → goes_over_list (out-Count c) ≡ false
      → Leads D S (other_row w at p e t (out-Ty u)) a → Leads D S (iteration_row S w at p e b c t (out-Ty u)) a
  element_of_list w at p e b c t u x a is goes h =
      let o : out-Ty u ≡ Ty-F.List x = ap out-Ty is ∙ ty.outs-List x in
      subst (λ z. Leads D S (iteration_row S w at p e b c t z) a) (sym o) (leads_else D S _ _ _ a goes (subst (λ z. Leads D S (other_row w at p e t z) a) o h))

  -- so is one that goes over a list, at an option
  pub element_of_option : (w : Within) (at : Span) (p : Manner) (e b : Exp) (c : Count) (t u x : Ty) (a : Answer) → u ≡ ty.Opt x → goes_over_list (out-Count c) ≡ true
      → Leads D S (other_row w at p e t (out-Ty u)) a → Leads D S (iteration_row S w at p e b c t (out-Ty u)) a
  element_of_option w at p e b c t u x a is goes h =
      let o : out-Ty u ≡ Ty-F.Opt x = ap out-Ty is ∙ ty.outs-Opt x in
      subst (λ z. Leads D S (iteration_row S w at p e b c t z) a) (sym o) (leads_then D S _ _ _ a goes (subst (λ z. Leads D S (other_row w at p e t z) a) o h))

  pub turn_other : (w : Within) (at : Span) (p : Manner) (e b : Exp) (c : Count) (t u : Ty) (a : Answer) → ((x : Ty) → u ≡ ty.List x → ⊥) → ((x : Ty) → u ≡ ty.Opt x → ⊥)
      → Leads D S (other_row w at p e t (out-Ty u)) a → Leads D S (iteration_row S w at p e b c t (out-Ty u)) a
  turn_other w at p e b c t u a list option = go (out-Ty u) refl
    where
      go : (y : Ty-F Ty) → out-Ty u ≡ y → Leads D S (other_row w at p e t y) a → Leads D S (iteration_row S w at p e b c t y) a
      go (Ty-F.List x) o h = absurd (list x (sym (roll-out-Ty u) ∙ (ap roll-Ty o ∙ ty.rolls-List x)))
      go (Ty-F.Opt x) o h = absurd (option x (sym (roll-out-Ty u) ∙ (ap roll-Ty o ∙ ty.rolls-Opt x)))
      go y o h = h

  -- ---- bodies

  -- the body is asked inside of the iteration
  pub body_leads : (w inner : Within) (b : Exp) (c : Count) (x t u : Ty) (m : Made) (a : Answer) → inner ≡ inside w c → u ≡ t
      → ((next : Made → Step) (a : Answer) → Leads D S (next m) a → Leads D S (Asks (asked inner b x) next) a)
      → Leads D S (iteration S w c m.exp u) a → Leads D S (body_row S w b c x t) a
  body_leads w inner b c x t u m a is same goes h =
      let there = subst (λ z. (next : Made → Step) (a : Answer) → Leads D S (next m) a → Leads D S (Asks (asked z b x) next) a) is goes in
      there (λ m. iteration S w c m.exp t) a (subst (λ z. Leads D S (iteration S w c m.exp z) a) same h)

  pub found_body_leads : (w inner : Within) (b : Exp) (c : Count) (u : Ty) (m : Made) (a : Answer) → inner ≡ inside w c → u ≡ iterated_type c m.ty
      → ((next : Made → Step) (a : Answer) → Leads D S (next m) a → Leads D S (Asks (found inner b) next) a)
      → Leads D S (iteration S w c m.exp u) a → Leads D S (inferred_iteration S w b c) a
  found_body_leads w inner b c u m a is same goes h =
      let there = subst (λ z. (next : Made → Step) (a : Answer) → Leads D S (next m) a → Leads D S (Asks (found z b) next) a) is goes in
      there (λ m. iteration S w c m.exp (iterated_type c m.ty)) a (subst (λ z. Leads D S (iteration S w c m.exp z) a) same h)

-- the variables that the iteration names
pub names_are : (S : Scope) (w inner : Within) (c : Count) (names : List (List ℕ)) (x y : IlExp) → names ≡ iterated_in S.variables (length w.kinds) inner.indices (λ name. occurs name x)
    → inner ≡ inside w c → x ≡ y → names ≡ iterated S w c (λ name. occurs name y)
names_are S w inner c names x y is there same =
    is ∙ ap (λ (z : Within). iterated_in S.variables (length w.kinds) z.indices (λ name. occurs name x)) there
    ∙ ap (λ z. iterated_in S.variables (length w.kinds) (inside w c).indices (λ name. occurs name z)) same
