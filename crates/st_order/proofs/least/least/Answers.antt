use Rattle.std.proofs.Common.{◌+◌, ◌-◌, length, arith}
use Rattle.st_order.proofs.LeastName.{least_step}
use Rattle.st_order.proofs.least.least.Goals as goal

pub loop-i-preserved : goal.loop-i-preserved
loop-i-preserved c =
    let within = c.loop-i-test.true in
    least_step c.args.names.now (length c.args.names.now - 1 - c.loop-i.i) (length c.args.names.now - (c.loop-i.i + 1)) (length c.args.names.now - c.loop-i.i)
    c.index-names-names.result _ _ (omega (arith, within)) c.index-names-names.is (omega (arith, within)) (omega (arith, within)) c.lesser.ensures c.loop-i.invariant
