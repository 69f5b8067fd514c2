-- Chains of at most so many goals, and goals from which no chain leads far.
use Rattle.std.specs.Prelude.{◌≡◌, ℕ, suc, ◌≤◌, List, [], ◌∷◌, length, map, All, Option, Some, None}
use Rattle.st_il.specs.declared.definition.Il.{Il}
use Rattle.st_il.specs.Names.{Name}
use Rattle.st_semantics.specs.Goals.{Goal, IsGoal}
use Rattle.st_semantics.specs.Chains.{Linked, last_of, RuleMeets}
use Rattle.st_search.specs.declared.answer.Chain.{Chain}
use Rattle.st_search.specs.declared.answer.SearchFault.{SearchFault}
use Rattle.st_search.specs.declared.answer.SearchFault.TheVariants as fault
use Rattle.st_search.specs.declared.stop.Stop.{Stop}
use Rattle.st_search.specs.declared.stop.Stop.TheVariants as stop
use Rattle.st_search.specs.Answers.{told, IsToldAt}

-- Whatever goals follow this one, each the one before it, they are at most so many with it, and no
-- rule meets Deep at n at the last of them.
pub record IsCalm (il : Il) (n longest : ℕ) (g : Goal) : Type 0 where
  pub short : (more : List Goal) → Linked il g more → suc (length more) ≤ longest
  pub quiet : (more : List Goal) → Linked il g more → (number premise : ℕ)
      → RuleMeets il n (last_of g more) number premise → ⊥

-- a chain has `left` goals, or at most so many and ends where a rule meets Deep at n
abbrev pub IsCutBy : Il → ℕ → ℕ → Goal → List Goal → Option (ℕ × ℕ) → Type 0
IsCutBy il n left g more None = suc (length more) ≡ left
IsCutBy il n left g more (Some at) =
    (suc (length more) ≤ left) × RuleMeets il n (last_of g more) at.0 at.1

-- A chain from the goal on, where so many goals are left of the depth.
pub record IsChainBy (il : Il) (n left : ℕ) (g : Goal) (chain : Chain) : Type 0 where
  pub more : List Goal
  pub at : Option (ℕ × ℕ)
  pub typed : All (IsGoal il) (g ∷ more)
  pub linked : Linked il g more
  pub cut : IsCutBy il n left g more at
  pub goals_are : chain.goals ≡ map told (g ∷ more)
  pub at_is : IsToldAt il (last_of g more) at chain.at

-- a goal before those of a chain
abbrev pub led : Goal → Chain → Chain
led g chain = record chain { goals = told g ∷ chain.goals }

-- what is told of a goal behind which a search ends by this
abbrev pub fault_before : Goal → SearchFault → SearchFault
fault_before g (fault.Deep chain) = fault.Deep (led g chain)
fault_before g fault.Memory = fault.Memory

-- A search below a goal ends by what is a chain behind the goal, where so many are left behind it.
abbrev pub EndsBehind : Il → ℕ → ℕ → Goal → SearchFault → Type 0
EndsBehind il n left g (fault.Deep chain) = IsGoal il g → IsChainBy il n (suc left) g (led g chain)
EndsBehind il n left g fault.Memory = Unit {0}

-- what is told of a rule of this full name that stops at a premise, by its number
abbrev pub fault_by : Name → ℕ → Stop → SearchFault
fault_by name premise stop.Meets =
    fault.Deep (record { goals = []; at = Some (name, premise) })
fault_by name premise (stop.Asks chain) = fault.Deep chain
fault_by name premise stop.Memory = fault.Memory

-- what a premise stops by whose goal is searched in vain
abbrev pub stop_by : SearchFault → Stop
stop_by (fault.Deep chain) = stop.Asks chain
stop_by fault.Memory = stop.Memory
