use Rattle.std.proofs.Common.{◌+◌, ◌-◌, length, arith}
use Rattle.st_modes.proofs.DirectedParts.{directed_step, directed_end}
use Rattle.st_modes.proofs.relations.directed.Goals as goal

pub loop-i-preserved : goal.loop-i-preserved
loop-i-preserved c q =
    let within = c.loop-i-test.true in
    directed_step c.as_slice-defs.result.now (length c.as_slice-defs.result.now - 1 - c.loop-i.i) (length c.as_slice-defs.result.now - (c.loop-i.i + 1))
    (length c.as_slice-defs.result.now - c.loop-i.i) c.index-defs-defs.result q _ _ (omega (arith, within)) c.index-defs-defs.is (omega (arith, within)) (omega (arith, within))
    (c.in_ok-put_relation.ensures q) (c.loop-i.invariant q)

pub returns : goal.returns
returns c q =
    let beyond = c.loop-i-test.false in
    directed_end c.as_slice-defs.result.now c.args.il.now.defs (length c.as_slice-defs.result.now - c.loop-i.i) q _ (omega (arith, beyond)) c.as_slice-defs.ensures (c.loop-i.invariant q)
