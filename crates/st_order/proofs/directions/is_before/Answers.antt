use Rattle.st_order.proofs.InputParts.{is_before-input, is_before-output, is_before-none}
use Rattle.st_order.proofs.directions.is_before.Goals as goal

pub returns-then-hole-sides : goal.returns-then-hole-sides
returns-then-hole-sides c = is_before-input c.args.sides c.args.hole c.if-hole-sides.true

pub returns-then-hole-sides-2 : goal.returns-then-hole-sides-2
returns-then-hole-sides-2 c = is_before-output c.args.sides c.args.hole c.if-hole-sides.false c.if-hole-sides-2.true

pub returns-else-hole-sides-2 : goal.returns-else-hole-sides-2
returns-else-hole-sides-2 c = is_before-none c.args.sides c.args.hole c.if-hole-sides.false c.if-hole-sides-2.false
