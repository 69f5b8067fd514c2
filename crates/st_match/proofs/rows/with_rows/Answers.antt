use Rattle.st_match.proofs.AreRows.{ColumnsCover-step}
use Rattle.st_match.proofs.rows.with_rows.Goals as goal

pub loop-row-preserved : goal.loop-row-preserved
loop-row-preserved c =
    ColumnsCover-step c.args.how.now c.args.names.now c.args.rows.now c.args.env.now c.loop-row.found c.in_ok-more.more c.in_ok-found.found
    c.loop-row.row-index c.row-item.result c.as_slice.result.now c.loop-row-test.true c.row-item.is c.as_slice.ensures c.in_ok-found.ensures c.loop-row.invariant c.in_ok-more.ensures
