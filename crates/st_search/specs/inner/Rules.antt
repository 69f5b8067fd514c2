-- What the run of a rule is to find, and what a search of a relation.
use Rattle.std.specs.Prelude.{◌≡◌, ◌⊎◌, ℕ, false, Bool, List, [], ◌∷◌, ◌++◌, All, Option, Some, Ok, slice_get, option_and_then}
use Rattle.st_il.specs.declared.definition.Il.{Il}
use Rattle.st_il.specs.declared.definition.RelationDef.{RelationDef}
use Rattle.st_il.specs.declared.definition.RuleDef.{RuleDef}
use Rattle.st_il.specs.declared.expression.IlPrem.{IlPrem}
use Rattle.st_il.specs.declared.tree.Child.{Child}
use Rattle.st_il.specs.declared.value.Env.{Env}
use Rattle.st_il.specs.declared.value.Value.{Value}
use Rattle.st_il.specs.Names.{Name}
use Rattle.st_il.specs.Definitions.{relation_named, rules_of}
use Rattle.st_semantics.specs.Directions.{direction}
use Rattle.st_semantics.specs.Environments.{AgreeOn}
use Rattle.st_semantics.specs.Evaluation.{tasks}
use Rattle.st_semantics.specs.Variables.{relations_cited, have_otherwise, has_otherwise}
use Rattle.st_semantics.specs.Holding.{HaveValues}
use Rattle.st_semantics.specs.Reaching.{Reached, MeetsAmong, bound_behind, listed_behind}
use Rattle.st_semantics.specs.Calls.{has_value, has_value_at}
use Rattle.st_semantics.specs.Derivation.{Root, Derivable}
use Rattle.st_semantics.specs.Orders.{inputs_of_rule, outputs_of_rule, in_order}
use Rattle.st_semantics.specs.OrderOf.{order_of}
use Rattle.st_semantics.specs.Goals.{Goal}
use Rattle.st_semantics.specs.RuleDepth.{root_at, MeetsDeep}
use Rattle.st_semantics.specs.Marks.{NeedsRelation}
use Rattle.st_semantics.specs.Chains.{at_goal, Follows, RuleMeets}
use Rattle.st_algo.specs.declared.algorithm.Algorithm.{Algorithm}
use Rattle.st_algo.specs.declared.algorithm.Algos.{Algos}
use Rattle.st_algo.specs.Lowered.{rule_algorithm}
use Rattle.st_eval.specs.Steps.{HasOnly}
use Rattle.st_search.specs.declared.answer.Output.{Output}
use Rattle.st_search.specs.declared.found.Partial.{Partial}
use Rattle.st_search.specs.declared.found.Solution.{Solution}
use Rattle.st_eval.specs.inner.Beside.{beside}
use Rattle.st_search.specs.Answers.{IsOutput}
use Rattle.st_search.specs.inner.Asking.{AsksAmong}
use Rattle.st_search.specs.inner.Sought.{Sought}
use Rattle.st_search.specs.inner.Steps.{StandFor}

-- ---- relations

-- A relation that is declared and has a direction, each of whose rules has an order and no
-- `otherwise`.
pub record IsReady (il : Il) (relation : Name) : Type 0 where
  pub declared : RelationDef
  pub found : relation_named il relation ≡ Some declared
  pub inputs : List Bool
  pub directed : direction declared ≡ Some inputs
  pub ordered : All (λ (r : RuleDef). (order : List ℕ) × (order_of il r ≡ Ok order))
      (rules_of il relation)
  pub plain : All (λ (r : RuleDef). have_otherwise r.premises ≡ false) (rules_of il relation)

-- the relation and all that it needs are such
abbrev pub CanBeSearched : Il → Name → Type 0
CanBeSearched il relation =
    (other : Name) → (other ≡ relation) ⊎ NeedsRelation il relation other → IsReady il other

-- all relations that a premise cites can be searched, and it is no `otherwise`
pub record IsSearchedIn (il : Il) (p : IlPrem) : Type 0 where
  pub cited : All (CanBeSearched il) (relations_cited p)
  pub plain : has_otherwise p ≡ false

-- the algorithm of a rule, both by their numbers
abbrev pub algorithm_at : Algos → ℕ → ℕ → Option Algorithm
algorithm_at algos relation rule =
    option_and_then (λ (a : Option Algorithm). a)
    (option_and_then (λ (as' : List (Option Algorithm)). slice_get as' rule)
    (slice_get algos.relations relation))

-- The rule of a number of a relation, and its algorithm in its order.
pub record IsRuledBy (il : Il) (relation : Name) (number : ℕ) (rule : RuleDef)
    (algorithm : Algorithm) : Type 0 where
  pub is_rule : slice_get (rules_of il relation) number ≡ Some rule
  pub order : List ℕ
  pub is_order : order_of il rule ≡ Ok order
  pub lowered : algorithm ≡ rule_algorithm il rule order

-- ---- the run of a rule

-- children stand for each of some premises under an environment
abbrev pub AllStandFor : Il → ℕ → Root → Env → List IlPrem → List (List Child) → Type 0
AllStandFor il n root env [] [] = Unit {0}
AllStandFor il n root env [] (children ∷ rest) = ⊥
AllStandFor il n root env (p ∷ ps) [] = ⊥
AllStandFor il n root env (p ∷ ps) (children ∷ rest) =
    StandFor il n root env p children × AllStandFor il n root env ps rest

-- A rule came so far at a goal: under an environment of what is bound its inputs have the values of
-- the goal, and the premises before hold, children standing for each of them.
pub record IsPartial (il : Il) (n : ℕ) (g : Goal) (number : ℕ) (rule : RuleDef)
    (before : List IlPrem) (x : Partial) : Type 0 where
  pub variables : HasOnly il rule.variables (bound_behind (inputs_of_rule il rule) before) x.env
  pub inputs_are : HaveValues (has_value_at il n) (tasks x.env (inputs_of_rule il rule)) g.inputs
  pub stand : AllStandFor il n (root_at g number) x.env before x.children

-- what is sought behind these premises
abbrev pub run_seeks : Il → ℕ → Goal → ℕ → RuleDef → List IlPrem → Sought Partial Env
run_seeks il n g number rule before = record {
  Right = IsPartial il n g number rule before;
  Wanted = Reached (at_goal il 0 g number)
      (listed_behind rule.variables (inputs_of_rule il rule) before) (inputs_of_rule il rule)
      g.inputs before;
  Is = λ x env. AgreeOn (bound_behind (inputs_of_rule il rule) before) x.env env;
  Asked = AsksAmong (at_goal il 0 g number) rule.variables (inputs_of_rule il rule) g.inputs
      before;
  Deep = MeetsAmong (at_goal il n g number) rule.variables (inputs_of_rule il rule) g.inputs
      before;
}

-- ends with these environments, before any premise
abbrev pub started : List Env → List Partial
started [] = []
started (env ∷ envs) = record { env = env; children = [] } ∷ started envs

-- ends that are one premise longer, by each of some solutions
abbrev pub lengthened : Partial → List Solution → List Partial
lengthened p [] = []
lengthened p (x ∷ xs) =
    record { env = beside p.env x.env; children = p.children ++ x.children ∷ [] }
    ∷ lengthened p xs

-- Under an environment a rule derives these outputs at a goal.
pub record Derives (il : Il) (g : Goal) (number : ℕ) (rule : RuleDef) (order : List ℕ)
    (outputs : List Value) : Type 0 where
  pub env : Env
  pub reached : Reached (at_goal il 0 g number)
      (listed_behind rule.variables (inputs_of_rule il rule) (in_order rule.premises order))
      (inputs_of_rule il rule) g.inputs (in_order rule.premises order) env
  pub outputs_are : HaveValues (has_value il) (tasks env (outputs_of_rule il rule)) outputs

-- what is sought of a rule at a goal
abbrev pub rule_seeks : Il → ℕ → Goal → ℕ → RuleDef → List ℕ → Sought Output (List Value)
rule_seeks il n g number rule order = record {
  Right = IsOutput il n g;
  Wanted = Derives il g number rule order;
  Is = λ o outputs. o.values ≡ outputs;
  Asked = AsksAmong (at_goal il 0 g number) rule.variables (inputs_of_rule il rule) g.inputs
      (in_order rule.premises order);
  Deep = (premise : ℕ) × MeetsDeep (at_goal il n g number) rule order g.inputs premise;
}

-- the same of a rule in its order, whichever this is
abbrev pub numbered_seeks : Il → ℕ → Goal → ℕ → RuleDef → Sought Output (List Value)
numbered_seeks il n g number rule = record {
  Right = IsOutput il n g;
  Wanted = λ outputs. (order : List ℕ) × (order_of il rule ≡ Ok order)
      × Derives il g number rule order outputs;
  Is = λ o outputs. o.values ≡ outputs;
  Asked = λ next. (order : List ℕ) × (order_of il rule ≡ Ok order)
      × AsksAmong (at_goal il 0 g number) rule.variables (inputs_of_rule il rule) g.inputs
      (in_order rule.premises order) next;
  Deep = (order : List ℕ) × (premise : ℕ) × (order_of il rule ≡ Ok order)
      × MeetsDeep (at_goal il n g number) rule order g.inputs premise;
}

-- what is sought at a goal
abbrev pub goal_seeks : Il → ℕ → Goal → Sought Output (List Value)
goal_seeks il n g = record {
  Right = IsOutput il n g;
  Wanted = Derivable il g.relation g.inputs;
  Is = λ o outputs. o.values ≡ outputs;
  Asked = Follows il g;
  Deep = (number : ℕ) × (premise : ℕ) × RuleMeets il n g number premise;
}
