-- Containment of variants, by the cases that are found.
use Rattle.std.proofs.Common.{◌≡◌, ◌↔◌, sym, subst, List, Bool}
use Rattle.std.specs.Prelude.{IsTrue}
use Rattle.st_il.specs.declared.ty.Ty.{Ty}
use Rattle.st_il.specs.declared.definition.SyntaxDef.{SyntaxDef}
use Rattle.st_type_table.specs.declared.entry.CaseDef.{CaseDef}
use Rattle.st_type_table.specs.Cases.{HasCases}
use Rattle.st_type_table.specs.Sub.{AllStandIn, IsContained}
use Rattle.st_type_table.proofs.CasesLemmas.{HasCases-single}

pub contained-exact : (defs : List SyntaxDef) (a b : Ty) (xs ys : List CaseDef) (r : Bool) (cs ds : List CaseDef) → xs ≡ cs → ys ≡ ds
    → HasCases defs a cs → HasCases defs b ds → (IsTrue r ↔ AllStandIn defs xs ys) → IsTrue r ↔ IsContained defs a b
contained-exact defs a b xs ys r cs ds p q m n h = (
  λ y. record { lower = xs; upper = ys; lower_cases = lower; upper_cases = upper; stand = h.0 y },
  λ s. h.1 (subst (λ z. AllStandIn defs z ys) (HasCases-single defs a s.lower xs s.lower_cases lower)
      (subst (λ z. AllStandIn defs s.lower z) (HasCases-single defs b s.upper ys s.upper_cases upper) s.stand)),
)
  where
    lower : HasCases defs a xs
    lower = subst (HasCases defs a) (sym p) m

    upper : HasCases defs b ys
    upper = subst (HasCases defs b) (sym q) n
