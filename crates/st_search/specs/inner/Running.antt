-- What is sought at the parts of a run of a rule.
use Rattle.std.specs.Prelude.{◌≡◌, ◌<◌, ℕ, List, [], ◌∷◌, ◌++◌, length, Some, Ok, slice_get}
use Rattle.std.specs.List.{AllByRecursion}
use Rattle.st_il.specs.declared.definition.Il.{Il}
use Rattle.st_il.specs.declared.definition.Listed.{Listed}
use Rattle.st_il.specs.declared.definition.RuleDef.{RuleDef}
use Rattle.st_il.specs.declared.expression.IlPrem.{IlPrem}
use Rattle.st_il.specs.declared.value.Env.{Env}
use Rattle.st_il.specs.declared.value.Value.{Value}
use Rattle.st_semantics.specs.declared.outcome.Outcome.TheVariants as outcome
use Rattle.st_il.specs.Names.{Name}
use Rattle.st_il.specs.Definitions.{rules_of, IsRelation}
use Rattle.st_semantics.specs.Directions.{mask}
use Rattle.st_semantics.specs.Environments.{AgreeOn}
use Rattle.st_semantics.specs.Evaluation.{tasks}
use Rattle.st_semantics.specs.Variables.{vars_of, prem_vars}
use Rattle.st_semantics.specs.Holding.{HaveValues}
use Rattle.st_semantics.specs.Depth.{Meets}
use Rattle.st_semantics.specs.Calls.{has_value}
use Rattle.st_semantics.specs.Derivation.{Root}
use Rattle.st_semantics.specs.Orders.{inputs_of_rule, outputs_of_rule, in_order}
use Rattle.st_semantics.specs.OrderOf.{order_of}
use Rattle.st_semantics.specs.Goals.{Goal}
use Rattle.st_algo.specs.declared.algorithm.AlgoStep.{AlgoStep}
use Rattle.st_algo.specs.Lowered.{steps_of}
use Rattle.st_eval.specs.Steps.{HasOnly}
use Rattle.st_eval.specs.inner.Beside.{beside}
use Rattle.st_search.specs.Answers.{IsOutput}
use Rattle.st_search.specs.declared.answer.Output.{Output}
use Rattle.st_search.specs.declared.found.Partial.{Partial}
use Rattle.st_search.specs.declared.found.Solution.{Solution}
use Rattle.st_search.specs.declared.tree.Place.{Place}
use Rattle.st_search.specs.inner.Asking.{AsksGoal}
use Rattle.st_search.specs.inner.Sought.{Sought}
use Rattle.st_search.specs.inner.Steps.{at_root, IsSolution, IsSought}
use Rattle.st_search.specs.inner.Holes.{SomeGives}

-- An end of a run is one premise longer, by a solution of the premise.
pub record IsLonger (il : Il) (n : ℕ) (root : Root) (bound : List Name) (ls : List Listed)
    (p : IlPrem) (end : Partial) (x : Partial) : Type 0 where
  pub solution : Solution
  pub right : IsSolution il n root bound ls end.env p solution
  pub env_is : x.env ≡ beside end.env solution.env
  pub children_are : x.children ≡ end.children ++ solution.children ∷ []

-- what is sought of a premise from one end of a run
abbrev pub next_seeks : Il → ℕ → Root → List Name → List Listed → IlPrem → Partial
    → Sought Partial Env
next_seeks il n root bound ls p end = record {
  Right = IsLonger il n root bound ls p end;
  Wanted = IsSought il root bound ls end.env p;
  Is = λ x more. AgreeOn (bound ++ prem_vars p) x.env more;
  Asked = AsksGoal (at_root il 0 root) bound ls end.env p;
  Deep = Meets (at_root il n root) bound ls end.env p;
}

-- these variables, and no others, are bound at each of these ends
abbrev pub AllEndWith : Il → List Listed → List Name → List Partial → Type 0
AllEndWith il ls bound ends =
    AllByRecursion (λ (end : Partial). HasOnly il ls bound end.env) ends

-- what is sought of the conclusion of a rule from the end of a run
abbrev pub end_seeks : Il → ℕ → Goal → RuleDef → Partial → Sought Output (List Value)
end_seeks il n g rule end = record {
  Right = IsOutput il n g;
  Wanted = HaveValues (has_value il) (tasks end.env (outputs_of_rule il rule));
  Is = λ o outputs. o.values ≡ outputs;
  Asked = λ next. ⊥;
  Deep = SomeGives il n end.env (outputs_of_rule il rule) outcome.Deep;
}

-- the rule of a number of a relation, in its order
pub record IsRuleOf (il : Il) (relation : Name) (number : ℕ) (rule : RuleDef) (order : List ℕ)
    : Type 0 where
  pub is_rule : slice_get (rules_of il relation) number ≡ Some rule
  pub is_order : order_of il rule ≡ Ok order

-- these are the steps of the premises of a rule in its order
abbrev pub AreSteps : Il → RuleDef → List AlgoStep → Type 0
AreSteps il rule steps =
    (order : List ℕ) × (order_of il rule ≡ Ok order)
    × (steps ≡ steps_of il (vars_of (inputs_of_rule il rule)) (in_order rule.premises order))

-- this is the number of the premise that stands at a position of the order of a rule
abbrev pub IsNumberAt : Il → RuleDef → ℕ → ℕ → Type 0
IsNumberAt il rule position premise =
    (order : List ℕ) → order_of il rule ≡ Ok order → position < length order
    → slice_get order position ≡ Some premise

-- a place of a rule is that of its relation and number
pub record IsPlace (il : Il) (relation : Name) (place : Place) : Type 0 where
  pub is_relation : IsRelation il place.relation relation
  pub rule : IsRuleOf il relation place.number place.rule.now place.order.now
  pub holes : place.holes.now ≡ mask il relation
