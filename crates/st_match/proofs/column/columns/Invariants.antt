use Rattle.std.proofs.Common.{◌≡◌, drop}
use Rattle.st_semantics.specs.Iterations.{columns}
use Rattle.st_match.specs.inner.Scope.{entries_of, columns_now, columns_behind}
use Rattle.st_match.proofs.column.columns.Given as goal

abbrev pub invariant-loop-name : goal.invariant-loop-name
invariant-loop-name l =
    columns l.kind l.names (entries_of l.scope) ≡ columns_behind (columns_now l.found) (columns l.kind (drop l.name-index l.names) (entries_of l.scope))
