use Rattle.std.proofs.Common.{◌+◌, ◌-◌, length, arith}
use Rattle.st_order.proofs.MaskAmong.{mask_among_step}
use Rattle.st_order.proofs.masks.masks.Goals as goal

pub loop-i-preserved : goal.loop-i-preserved
loop-i-preserved c q =
    let within = c.loop-i-test.true in
    mask_among_step c.as_slice-defs.result.now (length c.as_slice-defs.result.now - 1 - c.loop-i.i) (length c.as_slice-defs.result.now - (c.loop-i.i + 1))
    (length c.as_slice-defs.result.now - c.loop-i.i) c.index-defs-defs.result q _ _ (omega (arith, within)) c.index-defs-defs.is (omega (arith, within)) (omega (arith, within))
    (c.in_ok-put_relation.ensures q) (c.loop-i.invariant q)
