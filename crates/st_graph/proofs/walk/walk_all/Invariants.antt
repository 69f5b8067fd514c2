use Rattle.std.proofs.Common.{◌≡◌, ◌≢◌, ◌<◌, ℕ, [], Some, slice_get}
use Rattle.st_graph.specs.declared.walk.NodeState.TheVariants.{New}
use Rattle.st_graph.specs.inner.Walks.{IsWalk}
use Rattle.st_graph.proofs.walk.walk_all.Given as goal

abbrev pub invariant-loop-node : goal.invariant-loop-node
invariant-loop-node l = record {
  walk : IsWalk l.graph l.walk;
  none : l.walk.path.items ≡ [];
  begun : (v : ℕ) → v < l.node → slice_get l.walk.states.items v ≢ Some New;
}
