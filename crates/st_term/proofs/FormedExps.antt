-- Expressions have a form in all their parts.
use Rattle.std.proofs.Common.{◌≡◌, ℕ, ◌+◌, ◌<◌, ◌≤◌, refl, sym, ◌∙◌, ap, subst, List, [], ◌∷◌, drop, length, get_or, None, inl, inr}
use Rattle.std.specs.Prelude.{Result, Ok, Err, OnOk}
use Rattle.std.proofs.lemmas.List.{drop_all}
use Rattle.std.specs.Borrow.{Bor}
use Rattle.st_il.specs.declared.definition.SyntaxDef.{SyntaxDef}
use Rattle.st_il.specs.declared.expression.IlExp.{IlExp, out-IlExp, roll-IlExp, roll-out-IlExp}
use Rattle.st_il.specs.declared.expression.IlExp.TheVariants as exp
use Rattle.st_il.specs.declared.expression.IlExp.TheOpen.{IlExp-F}
use Rattle.st_il.specs.declared.expression.Iteration.{Iteration}
use Rattle.st_il.specs.declared.expression.ListItem.{ListItem}
use Rattle.st_il.specs.declared.expression.PathSeg.{PathSeg}
use Rattle.st_il.specs.declared.ty.Ty.{Ty}
use Rattle.st_il.specs.declared.value.Value.TheVariants as value
use Rattle.st_semantics.specs.Formed as has
use Rattle.st_semantics.specs.Formed.{IsFormed, AreFormed}
use Rattle.st_semantics.specs.Forms.{form_at, operation_at, building, by_itself, structure, absent_list, absent_option}
use Rattle.st_semantics.specs.Iterations.{count_of}
use Rattle.st_semantics.specs.Operands.{operands_at, item_exp, segment_exps}
use Rattle.st_semantics.specs.Parts.{constant}
use Rattle.st_semantics.specs.References.{exps_now}
use Rattle.st_term.specs.inner.FormsHad.{HasFieldCount, IsCollection}
use Rattle.st_term.proofs.TermValues.{next_left}

-- what follows from a success
pub then_ok : {A E P Q : Type 0} (r : Result A E) → (P → Q) → OnOk r P → OnOk r Q
then_ok (Ok x) f h = f h
then_ok (Err e) f h = tt

abbrev Level : Type 0
Level = IlExp-F IlExp Iteration ListItem PathSeg

-- the operands of an expression
abbrev pub operands_of : IlExp → List IlExp
operands_of e = operands_at item_exp segment_exps (out-IlExp e)

module _ (defs : List SyntaxDef) where
  pub formed_Absent : (e : IlExp) (t : Ty) → e ≡ exp.Absent t → IsCollection defs t → IsFormed defs e
  formed_Absent e t is (inl h) = has.strict [] (constant (value.List [])) (absent_list t h.0 (ap out-IlExp is ∙ exp.outs-Absent t) h.1 refl) has.none
  formed_Absent e t is (inr h) = has.strict [] (constant (value.Opt None)) (absent_option t h.0 (ap out-IlExp is ∙ exp.outs-Absent t) h.1 refl) has.none

  pub formed_Fields : (e : IlExp) (type : List ℕ) (es gs : List IlExp) (count : ℕ) → e ≡ exp.Fields type es → count ≡ length es → HasFieldCount defs type count → gs ≡ operands_of e → AreFormed defs gs → IsFormed defs e
  formed_Fields e type es gs count is many h are parts =
      let out = ap out-IlExp is ∙ exp.outs-Fields type es in
      has.strict es (building h.0) (structure type es h.0 out h.1 (sym many ∙ h.2) refl) (subst (AreFormed defs) (are ∙ ap (operands_at item_exp segment_exps) out) parts)

  pub formed_Iter : (e : IlExp) (how : Iteration) (xs : List (List ℕ)) (body : IlExp) → e ≡ exp.Iter how xs body → AreFormed defs (count_of how) → IsFormed defs body → IsFormed defs e
  formed_Iter e how xs body is counted h = has.iteration how xs body (by_itself (ap form_at (ap out-IlExp is ∙ exp.outs-Iter how xs body))) counted h

  other_level : (e : IlExp) (y : Level) → out-IlExp e ≡ y → ((t : Ty) → y ≡ IlExp-F.Absent t → ⊥) → ((type : List ℕ) (es : List IlExp) → y ≡ IlExp-F.Fields type es → ⊥)
      → ((how : Iteration) (xs : List (List ℕ)) (body : IlExp) → y ≡ IlExp-F.Iter how xs body → ⊥) → AreFormed defs (operands_at item_exp segment_exps y) → IsFormed defs e
  other_level e (IlExp-F.Var x) is a f i parts = has.variable x (by_itself (ap form_at is))
  other_level e (IlExp-F.Call fun es) is a f i parts = has.call fun es (by_itself (ap form_at is)) parts
  other_level e (IlExp-F.Absent t) is a f i parts = absurd (a t refl)
  other_level e (IlExp-F.Fields type es) is a f i parts = absurd (f type es refl)
  other_level e (IlExp-F.Iter how xs body) is a f i parts = absurd (i how xs body refl)
  other_level e y is a f i parts = has.strict (operands_at item_exp segment_exps y) (operation_at y) (by_itself (ap form_at is)) parts

  -- any other expression
  pub formed_other : (e : IlExp) (gs : List IlExp) → ((t : Ty) → e ≡ exp.Absent t → ⊥) → ((type : List ℕ) (es : List IlExp) → e ≡ exp.Fields type es → ⊥)
      → ((how : Iteration) (xs : List (List ℕ)) (body : IlExp) → e ≡ exp.Iter how xs body → ⊥) → gs ≡ operands_of e → AreFormed defs gs → IsFormed defs e
  formed_other e gs a f i are parts =
      other_level e (out-IlExp e) refl
      (λ t h. a t (sym (roll-out-IlExp e) ∙ (ap roll-IlExp h ∙ exp.rolls-Absent t)))
      (λ type es h. f type es (sym (roll-out-IlExp e) ∙ (ap roll-IlExp h ∙ exp.rolls-Fields type es)))
      (λ how xs body h. i how xs body (sym (roll-out-IlExp e) ∙ (ap roll-IlExp h ∙ exp.rolls-Iter how xs body)))
      (subst (AreFormed defs) are parts)

  -- where those that are left have a form, all have one
  abbrev pub AreFormedFrom : List (Bor IlExp) → ℕ → Type 0
  AreFormedFrom es i = AreFormed defs (exps_now (drop i es)) → AreFormed defs (exps_now es)

  pub formed_next : (es : List (Bor IlExp)) (i : ℕ) (x : Bor IlExp) → i < length es → x ≡ get_or es i x → AreFormedFrom es i → IsFormed defs x.now → AreFormedFrom es (i + 1)
  formed_next es i x h is k one rest = k (subst (λ z. AreFormed defs (exps_now z)) (sym (next_left es i x h is)) (has.more one rest))

  pub formed_end : (es : List (Bor IlExp)) (i : ℕ) → length es ≤ i → AreFormedFrom es i → AreFormed defs (exps_now es)
  formed_end es i h k = k (subst (λ z. AreFormed defs (exps_now z)) (sym (drop_all i es h)) has.none)
