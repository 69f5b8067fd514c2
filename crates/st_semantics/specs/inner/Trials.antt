-- What a trial of an earlier rule gives at some depth, it gives at 500.
use Rattle.std.specs.Prelude.{◌≡◌, ℕ, true, List, Some, slice_get}
use Rattle.st_il.specs.declared.definition.Il.{Il}
use Rattle.st_il.specs.declared.definition.RuleDef.{RuleDef}
use Rattle.st_il.specs.declared.value.Value.{Value}
use Rattle.st_il.specs.Names.{Name}
use Rattle.st_il.specs.Definitions.{rules_of}
use Rattle.st_semantics.specs.Orders.{is_order}
use Rattle.st_semantics.specs.ModeRules.{cites_nothing}
use Rattle.st_semantics.specs.Evidence.{IsDeepTrial, GivesOutputs, in_trial, in_trial_at}

-- Where a rule without relation premises gives outputs at some depth, and does not meet Deep at 500
-- in an executable order, it cannot but give outputs at 500.
abbrev pub TrialsAreStable : Il → Type 0
TrialsAreStable il =
    (name : Name) (number : ℕ) (rule : RuleDef) → slice_get (rules_of il name) number ≡ Some rule
    → (order : List ℕ) (inputs : List Value) → cites_nothing rule ≡ true
    → is_order il rule order ≡ true → (IsDeepTrial il rule order inputs → ⊥)
    → GivesOutputs (in_trial il) rule inputs → (GivesOutputs (in_trial_at il) rule inputs → ⊥) → ⊥
