use Rattle.std.proofs.Common.{sym, ap, ◌∙◌}
use Rattle.st_semantics.specs.Variables.{vars_of}
use Rattle.st_order.specs.inner.Index.{names_in}
use Rattle.st_order.specs.inner.Parts.{exps_in}
use Rattle.st_order.specs.inner.Selections.{all_numbered}
use Rattle.st_order.specs.inner.Endings.{told_of}
use Rattle.st_order.proofs.SameNames.{names_made}
use Rattle.st_order.proofs.EndingParts.{outputs_hold, output_unbound}
use Rattle.st_order.proofs.order.fault_of_outputs.Goals as goal

pub returns-then-are_known : goal.returns-then-are_known
returns-then-are_known c =
    outputs_hold (exps_in c.args.outputs.now) (told_of c.args.selection.now) (names_in c.as_slice-names.result.now) (ap all_numbered c.requires)
    (names_made c.as_slice-names.result.now c.push_vars_of.new.names c.new-names.result (vars_of (exps_in c.args.outputs.now)) c.as_slice-names.ensures c.in_ok-push_vars_of.ensures c.new-names.ensures) (sym c.are_known.ensures ∙ c.if-are_known.true)

pub returns : goal.returns
returns c =
    output_unbound (exps_in c.args.outputs.now) (told_of c.args.selection.now) (names_in c.as_slice-names.result.now) c.in_ok-variable.variable (ap all_numbered c.requires)
    (names_made c.as_slice-names.result.now c.push_vars_of.new.names c.new-names.result (vars_of (exps_in c.args.outputs.now)) c.as_slice-names.ensures c.in_ok-push_vars_of.ensures c.new-names.ensures) (sym c.are_known.ensures ∙ c.if-are_known.false) c.in_ok-variable.ensures
