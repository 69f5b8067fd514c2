-- The values of cases without operands, as the code asks for them.
use Rattle.std.specs.Prelude.{◌≡◌, ℕ, List, [], ◌∷◌}
use Rattle.st_il.specs.declared.expression.IlExp.{IlExp, out-IlExp}
use Rattle.st_il.specs.declared.expression.IlExp.TheOpen.{IlExp-F}
use Rattle.st_il.specs.declared.value.Value.{Value}
use Rattle.st_il.specs.declared.value.Value.TheVariants as value

-- an expression is a case without operands, and the value is that case
pub data IsCaseValue : IlExp → Value → Type 0 where
  case : {exp : IlExp} {val : Value} (type tag : List ℕ)
      → out-IlExp exp ≡ IlExp-F.Case type tag [] → val ≡ value.Case tag [] → IsCaseValue exp val

-- so it is with each of them
abbrev pub AreCaseValues : List IlExp → List Value → Type 0
AreCaseValues [] [] = Unit {0}
AreCaseValues (exp ∷ exps) (val ∷ vals) = IsCaseValue exp val × AreCaseValues exps vals
AreCaseValues [] (val ∷ vals) = ⊥
AreCaseValues (exp ∷ exps) [] = ⊥
