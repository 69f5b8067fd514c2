-- The walk as the code keeps it.
use Rattle.std.specs.Prelude.{◌≡◌, ℕ, List, length, slice_get, Some}
use Rattle.st_graph.specs.declared.walk.NodeState.TheVariants.{New}
use Rattle.st_graph.specs.declared.walk.Walk.{Walk}
use Rattle.st_graph.specs.inner.Walk as lists

-- the walk is right, so far as it has come
abbrev pub IsWalk : List (List ℕ) → Walk → Type 0
IsWalk graph w =
    lists.IsWalk graph w.states.items w.path.items w.bounds.items w.waiting.items
    (length w.closed.items)

-- a number that falls with each step
abbrev pub cost : List (List ℕ) → Walk → ℕ
cost graph w = lists.cost graph w.states.items w.path.items w.bounds.items w.waiting.items

-- what is begun stays so
abbrev pub KeepsBegun : Walk → Walk → Type 0
KeepsBegun before after =
    (v : ℕ) → slice_get after.states.items v ≡ Some New → slice_get before.states.items v ≡ Some New
