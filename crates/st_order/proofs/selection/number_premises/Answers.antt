use Rattle.std.proofs.Common.{◌+◌, refl}
use Rattle.st_order.proofs.NumberedParts.{numbered_next}
use Rattle.st_order.proofs.selection.number_premises.Goals as goal

pub loop-i-preserved : goal.loop-i-preserved
loop-i-preserved c =
    numbered_next c.args.premises.now c.loop-i.i (c.loop-i.i + 1) c.index-premises-i.result c.loop-i.row _ _ _ c.loop-i-test.true c.index-premises-i.is refl refl c.loop-i.invariant c.in_ok-push.ensures.ok
