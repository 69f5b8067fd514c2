use Rattle.st_order.proofs.NumberedParts.{but_for_next}
use Rattle.st_order.proofs.selection.but_for.Goals as goal

pub loop-p-preserved : goal.loop-p-preserved
loop-p-preserved c =
    but_for_next c.args.number c.args.left.now c.loop-p.p-index c.p-item.result _ _ _ c.loop-p-test.true c.p-item.is c.loop-p.invariant c.in_ok-push_if_other.ensures
