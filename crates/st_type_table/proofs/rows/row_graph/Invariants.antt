use Rattle.std.proofs.Common.{◌≡◌, map, take}
use Rattle.st_type_table.specs.inner.Rows.{row_number}
use Rattle.st_type_table.proofs.rows.row_graph.Given as goal

abbrev pub invariant-loop-rank : goal.invariant-loop-rank
invariant-loop-rank l = l.graph ≡ map row_number (take l.rank-index l.ranks)
