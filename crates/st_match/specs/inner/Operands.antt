-- Operands of which there are as many as an operation asks for, and others.
use Rattle.std.specs.Prelude.{◌≡◌, List, [], ◌∷◌, Option, Some, None}
use Rattle.st_il.specs.declared.value.Value.{Value}
use Rattle.st_semantics.specs.declared.outcome.Outcome.TheVariants.{NoValue}
use Rattle.st_semantics.specs.Parts.{binary, ternary}

-- the one operand, where there is exactly one
abbrev pub only_one : List Value → Option Value
only_one [] = None
only_one (a ∷ []) = Some a
only_one (a ∷ b ∷ more) = None

-- with these operands no operation on two has a value
abbrev pub Without : List Value → Type 0
Without vs = (f : Value → Value → Option Value) → binary f vs ≡ NoValue

-- with these operands no operation on three has a value
abbrev pub WithoutThree : List Value → Type 0
WithoutThree vs = (f : Value → Value → Value → Option Value) → ternary f vs ≡ NoValue
