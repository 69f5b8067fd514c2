-- The evidence for an `otherwise`: that no earlier rule gives outputs at these inputs.
use Rattle.std.specs.Prelude.{◌≡◌, ℕ, Bool, true, false, List, [], ◌∷◌, length, take, Option, Some, None}
use Rattle.st_deriv.specs.declared.line.NodeLine.{NodeLine}
use Rattle.st_il.specs.declared.definition.Il.{Il}
use Rattle.st_il.specs.declared.definition.RuleDef.{RuleDef}
use Rattle.st_il.specs.declared.value.Env.{Env}
use Rattle.st_il.specs.declared.value.Value.{Value}
use Rattle.st_semantics.specs.declared.verify_rule.VerifyRule.TheVariants.{V10, V13}
use Rattle.st_il.specs.Definitions.{rules_of}
use Rattle.st_semantics.specs.Directions.{inputs_of}
use Rattle.st_semantics.specs.Evaluation.{tasks}
use Rattle.st_semantics.specs.Variables.{have_otherwise}
use Rattle.st_semantics.specs.Orders.{inputs_of_rule, outputs_of_rule, is_order}
use Rattle.st_semantics.specs.Holding.{HaveValues}
use Rattle.st_semantics.specs.Depth.{Setting}
use Rattle.st_semantics.specs.Reaching.{Reached}
use Rattle.st_semantics.specs.Calls.{CallAt, has_value_at}
use Rattle.st_semantics.specs.Derivation.{derived}
use Rattle.st_semantics.specs.RuleDepth.{in_rule, MeetsDeep}
use Rattle.st_semantics.specs.Checks.{Test, accepts, refuses, asks, forbids, and_then, checking_depth}

-- where an earlier rule is tried: an `otherwise` counts as true, and what is Deep is so at 500
abbrev pub in_trial : Il → Setting
in_trial il = in_rule il checking_depth (Unit {0})

-- where an earlier rule is tried with every value taken at 500
abbrev pub in_trial_at : Il → Setting
in_trial_at il = record {
  il = il;
  calls = CallAt il checking_depth;
  meaning = has_value_at il checking_depth;
  otherwise = Unit {0};
  derives = derived il;
}

-- some typed environment gives the inputs of the rule these values, makes the premises hold and
-- gives the outputs values
pub record GivesOutputs (s : Setting) (rule : RuleDef) (inputs : List Value) : Type 0 where
  pub env : Env
  pub reached : Reached s rule.variables (inputs_of_rule s.il rule) inputs rule.premises env
  pub outputs : List Value
  pub values : HaveValues s.meaning (tasks env (outputs_of_rule s.il rule)) outputs

-- the rule meets Deep at 500 where it is tried with its premises in this order
abbrev pub IsDeepTrial : Il → RuleDef → List ℕ → List Value → Type 0
IsDeepTrial il rule order inputs = (number : ℕ) × MeetsDeep (in_trial il) rule order inputs number

-- The list is an executable order of the rule, the rule does not meet Deep in it at these inputs,
-- and gives no outputs there.
abbrev pub tries : Il → List Value → RuleDef → List ℕ → Test
tries il inputs rule order =
    and_then (asks (is_order il rule order ≡ true) V10)
    (and_then (forbids (IsDeepTrial il rule order inputs) V13)
    (forbids (GivesOutputs (in_trial_at il) rule inputs) V10))

-- the earlier rules in order, each by its list
abbrev pub try_each : Il → List Value → List RuleDef → List (List ℕ) → Test
try_each il inputs [] [] = accepts
try_each il inputs [] (order ∷ orders) = refuses V10
try_each il inputs (rule ∷ rules) [] = refuses V10
try_each il inputs (rule ∷ rules) (order ∷ orders) =
    and_then (tries il inputs rule order) (try_each il inputs rules orders)

-- a list for each of so many earlier rules, where the rule has an `otherwise`; else none
abbrev pub HasShape : Bool → ℕ → Option (List (List ℕ)) → Type 0
HasShape true number (Some orders) = length orders ≡ number
HasShape true number None = ⊥
HasShape false number (Some orders) = ⊥
HasShape false number None = Unit {0}

-- the earlier rules are tried by the evidence, where there is any
abbrev pub try_all : Il → List Value → List RuleDef → Option (List (List ℕ)) → Test
try_all il inputs rules None = accepts
try_all il inputs rules (Some orders) = try_each il inputs rules orders

-- V10: the evidence of a node has its shape, and none of the earlier rules gives outputs by it
abbrev pub excludes : Il → NodeLine → ℕ → RuleDef → Test
excludes il node number rule =
    and_then (asks (HasShape (have_otherwise rule.premises) number node.evidence) V10)
    (try_all il (inputs_of il node.relation node.values)
    (take number (rules_of il node.relation)) node.evidence)
