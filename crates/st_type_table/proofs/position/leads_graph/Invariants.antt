use Rattle.std.proofs.Common.{◌≡◌, map, take}
use Rattle.st_type_table.specs.inner.Graph.{node_of}
use Rattle.st_type_table.proofs.position.leads_graph.Given as goal

abbrev pub invariant-loop-number : goal.invariant-loop-number
invariant-loop-number l = l.graph ≡ map (node_of l.defs) (take l.number l.defs)
