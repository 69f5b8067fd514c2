use Rattle.std.proofs.Common.{◌≡◌, map, take}
use Rattle.st_type_table.specs.inner.Components.{row_in}
use Rattle.st_type_table.proofs.component.rows_in.Given as goal

abbrev pub invariant-loop-node : goal.invariant-loop-node
invariant-loop-node l = l.rows ≡ map row_in (take l.node-index l.graph)
