use Rattle.std.proofs.Common.{true, arith}
use Rattle.st_order.specs.inner.Inputs.{mask_told}
use Rattle.st_order.proofs.SteppingParts.{inputs-ended, outputs-ended, types-same, hole-within}
use Rattle.st_order.proofs.step_types.have_same_types.Goals as goal

pub returns-in_default : goal.returns-in_default
returns-in_default c =
    inputs-ended c.args.types.now (mask_told c.args.inputs.now) c.args.holes.now c.holes.from c.holes.to _ c.holes.invariant c.next_hole-input.result c.next_hole-output.result c.is_none.result c.next_hole-input.ensures c.in_default.is c.next_hole-output.ensures
    c.is_none.ensures

pub returns-in_default-output : goal.returns-in_default-output
returns-in_default-output c =
    outputs-ended c.args.types.now (mask_told c.args.inputs.now) c.args.holes.now c.holes.from c.holes.to _ c.holes.invariant c.next_hole-input.result c.next_hole-output.result c.in-Some.one c.next_hole-input.ensures c.in-Some.is
    c.next_hole-output.ensures c.in_default-output.is

pub holes-preserved : goal.holes-preserved
holes-preserved c =
    types-same c.args.types.now (mask_told c.args.inputs.now) c.args.holes.now c.holes.from c.holes.to _ c.holes.invariant c.next_hole-input.result c.next_hole-output.result c.in-Some.one c.in-Some-output.other c.next_hole-input.ensures c.in-Some.is
    c.next_hole-output.ensures c.in-Some-output.is c.index-holes-one.result c.index-holes-other.result c.index-holes-one.is c.index-holes-other.is c.same.result c.same.ensures.exact c.if-not-same.false

pub holes-smaller : goal.holes-smaller
holes-smaller c =
    let at = hole-within true (mask_told c.args.inputs.now) c.args.holes.now c.holes.from c.next_hole-input.result c.in-Some.one c.next_hole-input.ensures c.in-Some.is in
    omega (arith, at)
