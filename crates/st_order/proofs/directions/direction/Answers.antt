use Rattle.st_order.proofs.InputParts.{hole-told, no_hole-told}
use Rattle.st_order.proofs.directions.direction.Goals as goal

pub returns-in-Some : goal.returns-in-Some
returns-in-Some c = hole-told c.args.relation.now c.inputs_of.result c.in-Some.inputs c.is_input.result c.args.hole c.inputs_of.ensures c.in-Some.is c.is_input.ensures

pub returns-in-None : goal.returns-in-None
returns-in-None c = no_hole-told c.args.relation.now c.inputs_of.result c.args.hole c.inputs_of.ensures c.in-None.is
