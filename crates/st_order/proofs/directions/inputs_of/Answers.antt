use Rattle.st_order.proofs.InputParts.{inputs-leading, inputs-none}
use Rattle.st_order.proofs.directions.inputs_of.Goals as goal

pub returns-in-Some : goal.returns-in-Some
returns-in-Some c =
    inputs-leading c.args.relation.now c.is_empty.result c.sides_of.result c.as_slice-2.result.now c.requires c.is_empty.ensures c.if-not-is_empty.false c.as_slice-2.ensures c.sides_of.ensures c.in-Some.sides c.in-Some.is

pub returns-in-None : goal.returns-in-None
returns-in-None c =
    inputs-none c.args.relation.now c.is_empty.result c.sides_of.result c.as_slice-2.result.now c.requires c.is_empty.ensures c.if-not-is_empty.false c.as_slice-2.ensures c.sides_of.ensures c.in-None.is
