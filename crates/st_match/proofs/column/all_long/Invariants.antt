use Rattle.std.proofs.Common.{◌≡◌, drop}
use Rattle.st_semantics.specs.Iterations.{all_long}
use Rattle.st_match.specs.inner.Scope.{columns_now}
use Rattle.st_match.proofs.column.all_long.Given as goal

abbrev pub invariant-loop-column : goal.invariant-loop-column
invariant-loop-column l = all_long l.size (columns_now l.columns) ≡ all_long l.size (columns_now (drop l.column-index l.columns))
