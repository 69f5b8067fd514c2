use Rattle.std.proofs.Common.{◌∙◌, map}
use Rattle.st_match.specs.inner.Scope.{value_held}
use Rattle.st_match.proofs.HeadElements.{heads-next}
use Rattle.st_match.proofs.column.heads.Goals as goal

pub loop-column-preserved : goal.loop-column-preserved
loop-column-preserved c =
    heads-next c.args.at c.args.columns.now c.loop-column.column-index c.column-item.result (map value_held c.loop-column.found) (map value_held c.in_ok-found.found)
    c.loop-column-test.true c.column-item.is c.in_ok-found.ensures
    ∙ c.loop-column.invariant
