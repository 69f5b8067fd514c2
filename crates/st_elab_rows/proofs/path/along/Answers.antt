use Rattle.st_elab_rows.proofs.Walking.{walks_more}
use Rattle.st_elab_rows.proofs.path.along.Goals as goal

pub loop-seg-preserved : goal.loop-seg-preserved
loop-seg-preserved g c = λ next a h. c.loop-seg.invariant next a
    (walks_more _ _ _ _ c.args.path.now c.loop-seg.seg-index c.seg-item.result _ _ _ c.loop-seg.done _ next a c.loop-seg-test.true c.seg-item.is c.in_ok-push.ensures.ok c.in_ok-stepped.ensures h)
