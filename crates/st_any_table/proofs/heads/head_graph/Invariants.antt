use Rattle.std.proofs.Common.{◌≡◌, map, take}
use Rattle.st_any_table.specs.inner.Heads.{head_node}
use Rattle.st_any_table.proofs.heads.head_graph.Given as goal

abbrev pub invariant-loop-number : goal.invariant-loop-number
invariant-loop-number l = l.graph ≡ map (head_node l.defs) (take l.number l.defs)
