use Rattle.std.proofs.Common.{◌≡◌, ◌++◌, drop, map}
use Rattle.st_semantics.specs.Iterations.{heads}
use Rattle.st_match.specs.inner.Scope.{columns_now, columns_from, value_held}
use Rattle.st_eval.proofs.element.heads.Given as goal

abbrev pub invariant-loop-column : goal.invariant-loop-column
invariant-loop-column l =
    map value_held l.found ++ heads (columns_from l.at (columns_now (drop l.column-index l.columns))) ≡ heads (columns_from l.at (columns_now l.columns))
