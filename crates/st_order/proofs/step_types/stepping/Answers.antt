use Rattle.std.proofs.Common.{sym, ap, ◌∙◌}
use Rattle.std.specs.Prelude.{option_map}
use Rattle.st_order.specs.inner.Inputs.{mask_told}
use Rattle.st_order.proofs.SteppingParts.{not_stepping, is_stepping}
use Rattle.st_order.proofs.step_types.stepping.Goals as goal

pub returns-in-Some : goal.returns-in-Some
returns-in-Some c il t =
    is_stepping il c.args.relation.now c.args.types.now (mask_told c.in-Some.inputs) c.as_slice.result.now c.have_same_types.result t (ap (option_map mask_told) (sym c.in-Some.is) ∙ c.inputs_of.ensures) c.as_slice.ensures
    c.have_same_types.ensures

pub returns-in-None : goal.returns-in-None
returns-in-None c il t = not_stepping il c.args.relation.now (ap (option_map mask_told) (sym c.in-None.is) ∙ c.inputs_of.ensures)
