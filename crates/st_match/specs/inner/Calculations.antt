-- The functions on numbers and truth values that the operators stand for.
use Rattle.std.specs.Prelude.{ℤ, Bool, ◌&&◌, ◌||◌, Option, int_lt, int_le}
use Rattle.st_num.specs.Number.{sum, difference, product, quotient, remainder, power}
use Rattle.st_semantics.specs.Operators.{implies, agrees, is_above, is_at_least}
use Rattle.st_match.specs.declared.arithmetic.Calculation.{Calculation}
use Rattle.st_match.specs.declared.arithmetic.Calculation.TheVariants as calculation
use Rattle.st_match.specs.declared.arithmetic.Comparison.{Comparison}
use Rattle.st_match.specs.declared.arithmetic.Comparison.TheVariants as comparison
use Rattle.st_match.specs.declared.truth.Connective.{Connective}
use Rattle.st_match.specs.declared.truth.Connective.TheVariants as connective

-- the operation on two numbers
abbrev pub calculated : Calculation → ℤ → ℤ → Option ℤ
calculated calculation.Sum = sum
calculated calculation.Difference = difference
calculated calculation.Product = product
calculated calculation.Quotient = quotient
calculated calculation.Remainder = remainder
calculated calculation.Power = power

-- whether two numbers stand to each other in this way
abbrev pub compared : Comparison → ℤ → ℤ → Bool
compared comparison.Less = int_lt
compared comparison.Greater = is_above
compared comparison.LessOrEqual = int_le
compared comparison.GreaterOrEqual = is_at_least

-- what the connective makes of two truth values
abbrev pub connected : Connective → Bool → Bool → Bool
connected connective.And = ◌&&◌
connected connective.Or = ◌||◌
connected connective.Implies = implies
connected connective.Equivalent = agrees
