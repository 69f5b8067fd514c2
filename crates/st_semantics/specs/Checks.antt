-- Tests of a line, one after another: each answers nothing, or the rule by which the line is
-- refused.
use Rattle.std.specs.Prelude.{◌≡◌, ◌≢◌, ◌⊎◌, ℕ, List, [], ◌∷◌, Option, Some, None}
use Rattle.st_il.specs.declared.definition.Il.{Il}
use Rattle.st_il.specs.declared.expression.IlExp.{IlExp}
use Rattle.st_il.specs.declared.value.Env.{Env}
use Rattle.st_il.specs.declared.value.Value.{Value}
use Rattle.st_semantics.specs.declared.verify_rule.VerifyRule.{VerifyRule}
use Rattle.st_semantics.specs.declared.verify_rule.VerifyRule.TheVariants.{V7, V13}
use Rattle.st_semantics.specs.declared.outcome.Outcome.{Outcome}
use Rattle.st_semantics.specs.declared.outcome.Outcome.TheVariants.{Val, NoValue, Deep}
use Rattle.st_semantics.specs.Calls.{ValueAt}

-- what a test answers
abbrev pub Answer : Type 0
Answer = Option VerifyRule

-- which answer a test gives
abbrev pub Test : Type 1
Test = Answer → Type 0

-- nothing is said against the line
abbrev pub accepts : Test
accepts answer = answer ≡ None

-- the line is refused by this rule
abbrev pub refuses : VerifyRule → Test
refuses rule answer = answer ≡ Some rule

-- a fact is asked for, and the line is refused by this rule where it does not hold
abbrev pub asks : Type 0 → VerifyRule → Test
asks P rule answer = (P × accepts answer) ⊎ ((P → ⊥) × refuses rule answer)

-- a fact is not to hold, and the line is refused by this rule where it does
abbrev pub forbids : Type 0 → VerifyRule → Test
forbids P rule answer = ((P → ⊥) × accepts answer) ⊎ (P × refuses rule answer)

-- the second test comes where the first accepts
abbrev pub and_then : Test → Test → Test
and_then first second answer =
    (first None × second answer) ⊎ ((rule : VerifyRule) × first (Some rule) × refuses rule answer)

-- ---- evaluations, which are at 500

-- how many calls may be open at once where a line is tested
abbrev pub checking_depth : ℕ
checking_depth = 500

-- where an evaluation gives no value: V13 where it is Deep, else this rule
abbrev pub refusal : VerifyRule → Outcome → VerifyRule
refusal rule (Val v) = rule
refusal rule NoValue = rule
refusal rule Deep = V13

-- the expression has this value
abbrev pub evaluates : Il → VerifyRule → Env → IlExp → Value → Test
evaluates il rule env e v answer =
    (ValueAt il checking_depth env e (Val v) × accepts answer)
    ⊎ ((o : Outcome) × ValueAt il checking_depth env e o × (o ≢ Val v)
    × refuses (refusal rule o) answer)

-- The holes have these values: their number is asked first, and then each is evaluated.
abbrev pub evaluate_each : Il → Env → List IlExp → List Value → Test
evaluate_each il env [] vs = accepts
evaluate_each il env (e ∷ es) [] = refuses V7
evaluate_each il env (e ∷ es) (v ∷ vs) =
    and_then (evaluates il V7 env e v) (evaluate_each il env es vs)
