-- What the premises of a clause come to that are met one after another, and what a call comes to by
-- a clause that is tried.
use Rattle.std.specs.Prelude.{◌≡◌, ℕ, List, [], ◌⊎◌, Option, Some, None}
use Rattle.st_il.specs.declared.definition.ClauseDef.{ClauseDef}
use Rattle.st_il.specs.declared.definition.Il.{Il}
use Rattle.st_il.specs.declared.expression.IlPrem.{IlPrem}
use Rattle.st_il.specs.declared.value.Env.{Env}
use Rattle.st_il.specs.declared.value.Value.{Value}
use Rattle.st_semantics.specs.declared.outcome.Outcome.{Outcome}
use Rattle.st_semantics.specs.declared.outcome.Outcome.TheVariants.{Deep}
use Rattle.st_semantics.specs.Calls.{Chosen, TooDeep, CallAt, ValueAt}
use Rattle.st_semantics.specs.ModeRules.{bound_in_clause}
use Rattle.st_eval.specs.Steps.{HasOnly, IsMetUpTo, IsPassedOver}
use Rattle.st_eval.specs.declared.condition.Met.{Met}
use Rattle.st_eval.specs.declared.condition.Met.TheVariants as met

-- The premises before a position were met from one environment on, which has the variables of the
-- arguments, and they came to another one.
pub record AreMetUpTo (il : Il) (n : ℕ) (c : ClauseDef) (first : Env) (before : List IlPrem)
    (env : Env) : Type 0 where
  pub variables : HasOnly il c.variables (bound_in_clause c before) env
  pub leads : (vs : List Value) → IsMetUpTo il n c vs [] first → IsMetUpTo il n c vs before env

-- all premises hold under this environment, one fails, or one meets Deep
abbrev pub ClauseIsMet : Il → ℕ → ClauseDef → List Value → Met → Type 0
ClauseIsMet il n c vs (met.Holds more) = IsMetUpTo il n c vs c.premises more
ClauseIsMet il n c vs met.Fails = IsPassedOver il n c vs
ClauseIsMet il n c vs met.Deep = TooDeep il (CallAt il n) c vs

-- the clause is passed over, or it decides the call with this outcome
abbrev pub IsTried : Il → ℕ → ClauseDef → List Value → Option Outcome → Type 0
IsTried il n c vs None = IsPassedOver il n c vs
IsTried il n c vs (Some o) =
    ((env : Env) × Chosen il (CallAt il n) c vs env × ValueAt il n env c.result o)
    ⊎ (TooDeep il (CallAt il n) c vs × (o ≡ Deep))
