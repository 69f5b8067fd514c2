use Rattle.std.proofs.Common.{sym, ap, ◌∙◌}
use Rattle.std.specs.Option.{option_copied}
use Rattle.st_order.specs.inner.Parts.{exps_in}
use Rattle.st_order.specs.inner.Selections.{numbered}
use Rattle.st_order.specs.inner.Endings.{told_of}
use Rattle.st_order.proofs.EndingParts.{premise_left, none_left, first_left}
use Rattle.st_order.proofs.order.fault_of_selection.Goals as goal

pub fault_of_outputs-requires : goal.fault_of_outputs-requires
fault_of_outputs-requires c = none_left c.args.selection.now.left (sym (ap option_copied c.in_default.is) ∙ c.get-first.ensures.value)

pub returns : goal.returns
returns c =
    let left = first_left c.args.selection.now.left c.in-Some.first.now (sym (ap option_copied c.in-Some.is) ∙ c.get-first.ensures.value) in
    premise_left (exps_in c.args.outputs.now) (told_of c.args.selection.now) (numbered c.in-Some.first.now) left.0 c.in_ok-fault.fault left.1 c.in_ok-fault.ensures
