use Rattle.st_match.proofs.Positions.{finished-step}
use Rattle.st_match.proofs.position.finished.Goals as goal

pub loop-position-preserved : goal.loop-position-preserved
loop-position-preserved c =
    finished-step c.args.values.now c.loop-position.found c.in_ok-more.more c.in_ok-found.found c.args.positions.now c.loop-position.position-index c.position-item.result c.loop-position-test.true c.position-item.is
    c.in_ok-found.ensures c.loop-position.invariant c.in_ok-more.ensures
