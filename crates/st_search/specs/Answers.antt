-- What a search answers: all that a relation derives from some inputs, or a chain of goals that
-- leads from there to what is Deep.
use Rattle.std.specs.Prelude.{◌≡◌, ℕ, true, List, ◌∷◌, map, All, AllPairs, Contains, Option, Some, None, Result, Ok, Err, slice_get}
use Rattle.std.specs.Ordering.{is_lt}
use Rattle.st_il.specs.declared.definition.Il.{Il}
use Rattle.st_il.specs.declared.definition.RuleDef.{RuleDef}
use Rattle.st_il.specs.declared.value.Value.{Value}
use Rattle.st_il.specs.Order.{values_cmp}
use Rattle.st_il.specs.Names.{Name}
use Rattle.st_il.specs.Definitions.{IsRelation, rules_of}
use Rattle.st_semantics.specs.Directions.{inputs_of, outputs_of}
use Rattle.st_semantics.specs.Derivation.{Derivable}
use Rattle.st_semantics.specs.Goals.{Goal}
use Rattle.st_semantics.specs.Marks.{full_name}
use Rattle.st_semantics.specs.Chains.{last_of, IsChain, DeepAt, IsValidAt}
use Rattle.st_search.specs.declared.answer.Output.{Output}
use Rattle.st_search.specs.declared.answer.Outputs.{Outputs}
use Rattle.st_search.specs.declared.answer.Chain.{Chain}
use Rattle.st_search.specs.declared.answer.SearchFault.{SearchFault}
use Rattle.st_search.specs.declared.answer.SearchFault.TheVariants as fault

-- ---- outputs

-- what is asked: which outputs a relation derives from these inputs
abbrev pub goal_of : Name → List Value → Goal
goal_of relation inputs = record { relation = relation; inputs = inputs }

-- An output of a goal: the tree is valid at the depth, and has the inputs of the goal and these
-- outputs.
pub record IsOutput (il : Il) (depth : ℕ) (g : Goal) (o : Output) : Type 0 where
  pub valid : IsValidAt il depth o.tree
  pub relation_is : IsRelation il o.tree.relation g.relation
  pub inputs_are : inputs_of il g.relation o.tree.values ≡ g.inputs
  pub outputs_are : outputs_of il g.relation o.tree.values ≡ o.values

-- the values of some outputs
abbrev pub values_in : List Output → List (List Value)
values_in found = map (λ (o : Output). o.values) found

-- the values rise from one output to the next, so that each stands once
abbrev pub AreSorted : List Output → Type 0
AreSorted found =
    AllPairs (λ (a b : List Value). is_lt (values_cmp a b) ≡ true) (values_in found)

-- These are exactly the outputs that are derivable, each once, in the order of values.
pub record AreOutputs (il : Il) (depth : ℕ) (g : Goal) (found : List Output) : Type 0 where
  pub sound : All (IsOutput il depth g) found
  pub complete : (outputs : List Value) → Derivable il g.relation g.inputs outputs
      → Contains (values_in found) outputs
  pub sorted : AreSorted found

-- ---- chains

-- how a goal is told of in a chain
abbrev pub told : Goal → Name × List Value
told g = (g.relation, g.inputs)

-- where a chain is cut at its last goal: a rule by its number, and a premise, told with the full
-- name of the rule
abbrev pub IsToldAt : Il → Goal → Option (ℕ × ℕ) → Option (Name × ℕ) → Type 0
IsToldAt il last None None = Unit {0}
IsToldAt il last None (Some cut) = ⊥
IsToldAt il last (Some at) None = ⊥
IsToldAt il last (Some at) (Some cut) =
    (rule : RuleDef) × (slice_get (rules_of il last.relation) at.0 ≡ Some rule)
    × (cut.0 ≡ full_name rule) × (cut.1 ≡ at.1)

-- A chain that begins at the goal and is cut by the depth, or at a premise that meets Deep.
pub record IsChainOf (il : Il) (depth : ℕ) (g : Goal) (chain : Chain) : Type 0 where
  pub more : List Goal
  pub at : Option (ℕ × ℕ)
  pub is_chain : IsChain il depth g more at
  pub goals_are : chain.goals ≡ map told (g ∷ more)
  pub at_is : IsToldAt il (last_of g more) at chain.at

-- ---- answers

-- All outputs where no chain begins at the goal, and else a chain that does, unless memory ran out.
abbrev pub IsAnswer : Il → ℕ → Goal → Result Outputs SearchFault → Type 0
IsAnswer il depth g (Ok outputs) = AreOutputs il depth g outputs.found × (DeepAt il depth g → ⊥)
IsAnswer il depth g (Err (fault.Deep chain)) = IsChainOf il depth g chain
IsAnswer il depth g (Err fault.Memory) = Unit {0}
