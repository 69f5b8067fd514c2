-- What is known while a relation is searched, and what a search answers.
use Rattle.std.specs.Prelude.{◌≡◌, ℕ, ◌<◌, List, Result, Ok, Err}
use Rattle.std.specs.List.{AllByRecursion}
use Rattle.st_il.specs.declared.definition.Il.{Il}
use Rattle.st_il.specs.declared.value.Value.{Value}
use Rattle.st_il.specs.Names.{Name}
use Rattle.st_semantics.specs.Derivation.{Derivable}
use Rattle.st_semantics.specs.Goals.{Goal, IsGoal}
use Rattle.st_order.specs.Known.{AreDirections}
use Rattle.st_search.specs.declared.answer.Output.{Output}
use Rattle.st_search.specs.declared.answer.SearchFault.{SearchFault}
use Rattle.st_search.specs.declared.answer.SearchFault.TheVariants as fault
use Rattle.st_search.specs.declared.found.Found.{Found}
use Rattle.st_search.specs.declared.setting.Search.{Search}
use Rattle.st_search.specs.Searchable.{IsSearchable}
use Rattle.st_search.specs.Answers.{goal_of, IsOutput}
use Rattle.st_search.specs.inner.Lists.{Exists}
use Rattle.st_search.specs.inner.Chains.{IsCalm, IsChainBy}
use Rattle.st_search.specs.inner.Rules.{CanBeSearched}

-- the language can be searched, and what is kept of it is right
pub record IsSearch (s : Search) : Type 0 where
  pub searchable : IsSearchable s.setting.index.now s.setting.types.now s.algos.now
  pub directions : AreDirections s.directions.now
  pub same : s.directions.now.il.now ≡ s.setting.index.now

-- All outputs of a goal, and how far goals lead from it.
pub record Solves (il : Il) (n : ℕ) (g : Goal) (found : Found Output) : Type 0 where
  pub sound : AllByRecursion (IsOutput il n g) found.items
  pub complete : (outputs : List Value) → Derivable il g.relation g.inputs outputs
      → Exists (λ (o : Output). o.values ≡ outputs) found.items
  pub calm : IsCalm il n found.longest g

-- Where so many goals are left of the depth, a goal is answered: by all its outputs and how far
-- goals lead from it, or by a chain.
abbrev pub IsSolved : Il → ℕ → ℕ → Goal → Result (Found Output) SearchFault → Type 0
IsSolved il n left g (Ok found) =
    (found.longest < left)
    × (CanBeSearched il g.relation → Solves il n g found)
IsSolved il n left g (Err (fault.Deep chain)) =
    CanBeSearched il g.relation → IsGoal il g → IsChainBy il n left g chain
IsSolved il n left g (Err fault.Memory) = Unit {0}

-- what may be answered to a goal: its relation, its inputs and the answer
abbrev pub Solvings : Type 1
Solvings = Name → List Value → Result (Found Output) SearchFault → Type 0

-- each answer is right where so many goals are left
abbrev pub AnswersGoals : Il → ℕ → ℕ → Solvings → Type 0
AnswersGoals il n left A =
    (relation : Name) (inputs : List Value) (r : Result (Found Output) SearchFault)
    → A relation inputs r → IsSolved il n left (goal_of relation inputs) r
