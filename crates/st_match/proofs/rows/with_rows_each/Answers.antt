use Rattle.std.proofs.Common.{refl}
use Rattle.st_match.proofs.AllColumnsCover.{AllColumnsCover-step}
use Rattle.st_match.proofs.rows.with_rows_each.Goals as goal

pub loop-env-preserved : goal.loop-env-preserved
loop-env-preserved c =
    AllColumnsCover-step c.args.how.now c.args.names.now c.args.rows.now c.args.rows.now c.args.envs.now c.loop-env.found c.in_ok-more.more c.in_ok-found.found
    c.loop-env.env-index c.env-item.result c.loop-env-test.true c.env-item.is refl c.in_ok-found.ensures c.loop-env.invariant c.in_ok-more.ensures
