use Rattle.std.proofs.Common.{take}
use Rattle.st_match.specs.inner.Rows.{ColumnsCover}
use Rattle.st_match.proofs.rows.with_rows.Given as goal

abbrev pub invariant-loop-row : goal.invariant-loop-row
invariant-loop-row l = ColumnsCover l.how l.names (take l.row-index l.rows) l.env l.found
