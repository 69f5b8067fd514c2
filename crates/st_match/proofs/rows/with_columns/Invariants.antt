use Rattle.std.proofs.Common.{take, [], ◌∷◌}
use Rattle.st_semantics.specs.Iterations.{kind_of, index_of}
use Rattle.st_match.specs.inner.Covering.{Covers}
use Rattle.st_match.specs.inner.Rows.{HasColumns, in_columns}
use Rattle.st_match.proofs.rows.with_columns.Given as goal

abbrev pub invariant-loop-name : goal.invariant-loop-name
invariant-loop-name l = Covers (HasColumns (kind_of l.how) (index_of l.how) l.names l.row) (in_columns (index_of l.how) (take l.name-index l.names) l.row) (l.env ∷ []) l.found
