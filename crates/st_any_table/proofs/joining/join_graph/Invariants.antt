use Rattle.std.proofs.Common.{◌≡◌, map, take}
use Rattle.st_type_table.specs.inner.JoinGraph.{join_node}
use Rattle.st_any_table.proofs.joining.join_graph.Given as goal

abbrev pub invariant-loop-number : goal.invariant-loop-number
invariant-loop-number l = l.graph ≡ map (join_node l.defs) (take l.number l.defs)
