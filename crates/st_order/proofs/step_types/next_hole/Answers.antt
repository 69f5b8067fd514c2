use Rattle.std.proofs.Common.{sym, ◌∙◌}
use Rattle.st_il.specs.declared.ty.Ty.TheVariants as ty
use Rattle.st_order.specs.inner.Inputs.{mask_told}
use Rattle.st_order.proofs.SteppingParts.{from_hole-other, next-found, next-none}
use Rattle.st_order.proofs.step_types.next_hole.Goals as goal

pub loop-hole-preserved : goal.loop-hole-preserved
loop-hole-preserved c =
    from_hole-other c.args.input (mask_told c.args.inputs.now) c.args.holes.now c.loop-hole.hole c.loop-hole-test.true ty.Bool (sym c.is_side.ensures ∙ c.if-is_side.false) _ c.loop-hole.invariant

pub returns-then-is_side : goal.returns-then-is_side
returns-then-is_side c =
    next-found c.args.input (mask_told c.args.inputs.now) c.args.holes.now c.loop-hole.hole c.loop-hole-test.true c.args.from c.loop-hole.auto.hole (sym c.is_side.ensures ∙ c.if-is_side.true) c.loop-hole.invariant

pub returns : goal.returns
returns c = next-none c.args.input (mask_told c.args.inputs.now) c.args.holes.now c.args.from c.loop-hole.hole c.loop-hole-test.false c.loop-hole.invariant
