-- What a premise comes to that is met with some variables bound.
use Rattle.std.specs.Prelude.{◌≡◌, ℕ, true, List, ◌++◌, ◌⊎◌}
use Rattle.st_il.specs.declared.definition.Il.{Il}
use Rattle.st_il.specs.declared.definition.Listed.{Listed}
use Rattle.st_il.specs.declared.definition.SyntaxDef.{SyntaxDef}
use Rattle.st_il.specs.declared.expression.IlExp.{IlExp}
use Rattle.st_il.specs.declared.expression.IlPrem.{IlPrem}
use Rattle.st_il.specs.declared.value.Env.{Env}
use Rattle.st_il.specs.declared.value.Value.{Value}
use Rattle.st_il.specs.declared.value.Value.TheVariants as value
use Rattle.st_semantics.specs.declared.outcome.Outcome.{Outcome}
use Rattle.st_semantics.specs.declared.outcome.Outcome.TheVariants as outcome
use Rattle.st_il.specs.Names.{Name, all_known}
use Rattle.st_il.specs.Definitions.{syntaxes}
use Rattle.st_semantics.specs.Environments.{listed_names}
use Rattle.st_semantics.specs.Formed.{IsFormed}
use Rattle.st_semantics.specs.Variables.{vars}
use Rattle.st_semantics.specs.Patterns.{is_pattern, binds}
use Rattle.st_semantics.specs.Matching.{IsMatch}
use Rattle.st_semantics.specs.Calls.{ValueAt}
use Rattle.st_eval.specs.Steps.{MeetsAt, HoldsWith, Fails, AreSides}
use Rattle.st_eval.specs.declared.condition.Met.{Met}
use Rattle.st_eval.specs.declared.condition.Met.TheVariants as met

-- a premise that is met with these variables bound comes to this
abbrev pub IsMet : Il → ℕ → List Name → List Listed → Env → IlPrem → Met → Type 0
IsMet il n bound ls env p (met.Holds more) = HoldsWith il n bound ls env p more
IsMet il n bound ls env p met.Fails = Fails il n bound ls env p
IsMet il n bound ls env p met.Deep = MeetsAt il n bound ls env p

-- ---- conditions

-- a condition all of whose variables are bound comes to this by its outcome
abbrev pub IsTested : Env → Outcome → Met → Type 0
IsTested env o (met.Holds more) = (o ≡ outcome.Val (value.Bool true)) × (more ≡ env)
IsTested env o met.Fails = (o ≡ outcome.Val (value.Bool true) → ⊥) × (o ≡ outcome.Deep → ⊥)
IsTested env o met.Deep = o ≡ outcome.Deep

-- an environment that matches, or that none does
abbrev pub IsMatched : List SyntaxDef → List Listed → IlExp → Value → Env → Met → Type 0
IsMatched defs ls pattern v env (met.Holds more) = IsMatch defs ls pattern v env more
IsMatched defs ls pattern v env met.Fails =
    (more : Env) → IsMatch defs ls pattern v env more → ⊥
IsMatched defs ls pattern v env met.Deep = ⊥

-- an equation comes to this by the outcome of its bound side
abbrev pub IsEquatedBy : Il → List Listed → Env → IlExp → Outcome → Met → Type 0
IsEquatedBy il ls env pattern (outcome.Val v) m = IsMatched (syntaxes il) ls pattern v env m
IsEquatedBy il ls env pattern outcome.NoValue m = m ≡ met.Fails
IsEquatedBy il ls env pattern outcome.Deep m = m ≡ met.Deep

-- an equation with this bound side and this pattern comes to this
abbrev pub IsEquated : Il → ℕ → List Listed → Env → IlExp → IlExp → Met → Type 0
IsEquated il n ls env side pattern m =
    (o : Outcome) × ValueAt il n env side o × IsEquatedBy il ls env pattern o m

-- An equation whose one side is bound and whose other one is a pattern, of variables that are listed
-- and bound or bound by it.
pub record IsEquation (il : Il) (bound : List Name) (ls : List Listed) (e side pattern : IlExp)
    : Type 0 where
  pub sides : AreSides bound e side pattern
  pub side_formed : IsFormed (syntaxes il) side
  pub pattern_formed : IsFormed (syntaxes il) pattern
  pub matched : is_pattern pattern ≡ true
  pub bound_too : all_known (bound ++ binds pattern) (vars pattern) ≡ true
  pub listed : all_known (listed_names ls) (vars e) ≡ true

-- a condition that can be met: a test, or such an equation
pub record IsCondition (il : Il) (bound : List Name) (ls : List Listed) (e : IlExp) : Type 0 where
  pub formed : IsFormed (syntaxes il) e
  pub way : (all_known bound (vars e) ≡ true)
      ⊎ ((side : IlExp) × (pattern : IlExp) × IsEquation il bound ls e side pattern)
