-- What the steps that rows are made of keep.
use Rattle.std.proofs.Common.{◌≡◌, refl, ℕ, List, [], ◌∷◌, Bool, true, false}
use Rattle.std.specs.Prelude.{if◌then◌else◌, Option, Some, None}
use Rattle.st_num.specs.declared.span.Span.{Span}
use Rattle.st_num.specs.declared.mark.Mark.TheVariants as mark
use Rattle.st_el.specs.declared.expression.Exp.{Exp}
use Rattle.st_il.specs.declared.definition.IlDef.{IlDef}
use Rattle.st_il.specs.declared.ty.Ty.{Ty, out-Ty}
use Rattle.st_il.specs.declared.ty.Ty.TheOpen.{Ty-F}
use Rattle.st_il.specs.declared.ty.Ty.TheVariants as ty
use Rattle.st_il.specs.declared.ty.NumTy.{NumTy}
use Rattle.st_il.specs.declared.ty.NumTy.TheVariants as number
use Rattle.st_il.specs.declared.expression.IlExp.{IlExp}
use Rattle.st_il.specs.declared.expression.IlExp.TheVariants as il
use Rattle.st_type_table.specs.Meaning.{fields_of}
use Rattle.st_erase.specs.Erasure.{erased, binary}
use Rattle.st_elab_table.specs.declared.decls.Decls.{Decls}
use Rattle.st_notation.specs.declared.filled.Shape.{Shape}
use Rattle.st_elab_table.specs.Choice.{shape_of}
use Rattle.st_elab_table.specs.Records.{shaped}
use Rattle.st_elab_table.specs.Questions.{Question, Made, Step, asks}
use Rattle.st_elab_table.specs.Steps.{list_at, as_list, number_at, as_number, larger, raised, injected, joined_at, as_joined}
use Rattle.st_elab_table.specs.Paths.{declared_field, field_by, as_field}
use Rattle.st_elab_table.proofs.Keeps.{Keeps}
use Rattle.st_elab_law.proofs.Claims.{IsWritten, Claim, Claims}
use Rattle.st_elab_law.proofs.Erasings.{erased-Up, erased-Cat, erased-Join}

module _ (D : Decls) (P : Question → Made → Type 0) (Q : Made → Type 0) where
  pub keeps_if : (b : Bool) (s u : Step) → (b ≡ true → Keeps D P Q s) → (b ≡ false → Keeps D P Q u) → Keeps D P Q (if b then s else u)
  keeps_if true s u h k = h refl
  keeps_if false s u h k = k refl

  pub keeps_asks : (qs : List Question) (next : List Made → Step) → ((ms : List Made) → Claims P qs ms → Keeps D P Q (next ms)) → Keeps D P Q (asks qs next)
  keeps_asks [] next h = h [] tt
  keeps_asks (q ∷ qs) next h = λ m c. keeps_asks qs (λ ms. next (m ∷ ms)) (λ ms cs. h (m ∷ ms) (c, cs))

  pub keeps_list : (at : Span) (t : Ty) (next : Ty → Step) → ((x : Ty) → Keeps D P Q (next x)) → Keeps D P Q (as_list at t next)
  keeps_list at t next h = λ u m. by (out-Ty u)
    where
      by : (y : Ty-F Ty) → Keeps D P Q (list_at at next y)
      by (Ty-F.List x) = h x
      by y = tt

  pub keeps_number : (at : Span) (t : Ty) (next : NumTy → Step) → ((n : NumTy) → Keeps D P Q (next n)) → Keeps D P Q (as_number at t next)
  keeps_number at t next h = λ u m. by (out-Ty u)
    where
      by : (y : Ty-F Ty) → Keeps D P Q (number_at at next y)
      by Ty-F.Nat = h number.Nat
      by Ty-F.Int = h number.Int
      by y = tt

  pub keeps_larger : (a b : Ty) (next : Ty → Step) → ((t : Ty) → Keeps D P Q (next t)) → (none : Step) → Keeps D P Q none → Keeps D P Q (larger a b next none)
  keeps_larger a b next h none k = ((λ _. h a), (λ _. ((λ _. h b), (λ _. k))))

  pub keeps_field : (at whole : Span) (name : List ℕ) (t : Ty) (next : Ty → Step) → ((x : Ty) → Keeps D P Q (next x)) → Keeps D P Q (as_field D at whole name t next)
  keeps_field at whole name t next h = λ u m. by (fields_of D.types u)
    where
      declared : (o : Option Ty) → Keeps D P Q (declared_field whole next o)
      declared None = tt
      declared (Some x) = h x

      by : (o : Option (List (List ℕ × Ty))) → Keeps D P Q (field_by at whole name next o)
      by None = tt
      by (Some fields) = declared _

  pub keeps_shaped : (ts : List Ty) (next : List Shape → Step) → ((ss : List Shape) → Keeps D P Q (next ss)) → Keeps D P Q (shaped ts next)
  keeps_shaped [] next h = h []
  keeps_shaped (t ∷ ts) next h = λ u _. keeps_shaped ts (λ ss. next (shape_of u ∷ ss)) (λ ss. h (shape_of u ∷ ss))

-- ---- injections

module _ (defs : List IlDef) where
  pub erased-injected : (m n : NumTy) (x : IlExp) → erased defs (injected m n x) ≡ erased defs x
  erased-injected number.Nat number.Nat x = refl
  erased-injected number.Nat number.Int x = erased-Up defs ty.Int x
  erased-injected number.Int n x = refl

  module _ (D : Decls) (P : Question → Made → Type 0) (Q : Made → Type 0) where
    -- what is injected is erased as it was
    pub keeps_raised : (m : Made) (t : Ty) (next : IlExp → Step) → ((x : IlExp) → erased defs x ≡ erased defs m.exp → Keeps D P Q (next x)) → Keeps D P Q (raised m t next)
    keeps_raised m t next h = ((λ _. h m.exp refl), (λ _. h (il.Up t m.exp) (erased-Up defs t m.exp)))

    -- what is joined is erased to `++`
    pub keeps_joined : (at : Span) (t : Ty) (next : (IlExp → IlExp → IlExp) → Step)
        → ((join : IlExp → IlExp → IlExp) → ((x y : IlExp) → erased defs (join x y) ≡ binary mark.PlusPlus (erased defs x) (erased defs y)) → Keeps D P Q (next join))
        → Keeps D P Q (as_joined at t next)
    keeps_joined at t next h = λ u m. by (out-Ty u)
      where
        by : (y : Ty-F Ty) → Keeps D P Q (joined_at at t next y)
        by (Ty-F.List x) = h il.Cat (erased-Cat defs)
        by y = ((λ _. h il.Join (erased-Join defs)), (λ _. tt))

    pub keeps_both_raised : (a b : Made) (t : Ty) (next : IlExp → IlExp → Step)
        → ((x y : IlExp) → erased defs x ≡ erased defs a.exp → erased defs y ≡ erased defs b.exp → Keeps D P Q (next x y)) → Keeps D P Q (raised a t (λ x. raised b t (next x)))
    keeps_both_raised a b t next h = keeps_raised a t (λ x. raised b t (next x)) (λ x f. keeps_raised b t (next x) (λ y g. h x y f g))

  -- what is made is erased to this expression
  abbrev pub Writes : Type 0 → Exp → Made → Type 0
  Writes Alone e m = IsWritten Alone (erased defs m.exp) e

  abbrev pub Kept : Decls → Type 0 → Exp → Step → Type 0
  Kept D Alone e = Keeps D (Claim defs D) (Writes Alone e)
