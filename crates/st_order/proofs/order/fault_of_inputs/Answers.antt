use Rattle.std.proofs.Common.{sym, ◌∙◌}
use Rattle.st_semantics.specs.Patterns.{bound_by}
use Rattle.st_order.specs.inner.Index.{names_in}
use Rattle.st_order.specs.inner.Parts.{exps_in}
use Rattle.st_order.proofs.SameNames.{SameNames-made}
use Rattle.st_order.proofs.EndingParts.{no_input, inputs_hold, input_unbound}
use Rattle.st_order.proofs.order.fault_of_inputs.Goals as goal

pub returns-then-not-are : goal.returns-then-not-are
returns-then-not-are c = no_input (exps_in c.args.inputs.now) (sym c.in_ok-are.ensures ∙ c.if-not-are.true)

pub returns-then-are_known : goal.returns-then-are_known
returns-then-are_known c =
    inputs_hold (exps_in c.args.inputs.now) (names_in c.in_ok-known.known.keys) (names_in c.args.names.now) (sym c.in_ok-are.ensures ∙ c.if-not-are.false)
    (SameNames-made (names_in c.in_ok-known.known.keys) c.as_slice.result.now c.push_bound_by.new.names c.new-binding.result (bound_by (exps_in c.args.inputs.now)) c.in_ok-known.ensures c.as_slice.ensures c.in_ok-push_bound_by.ensures c.new-binding.ensures) c.requires (sym c.are_known.ensures ∙ c.if-are_known.true)

pub returns : goal.returns
returns c =
    input_unbound (exps_in c.args.inputs.now) (names_in c.in_ok-known.known.keys) (names_in c.args.names.now) c.in_ok-variable.variable (sym c.in_ok-are.ensures ∙ c.if-not-are.false)
    (SameNames-made (names_in c.in_ok-known.known.keys) c.as_slice.result.now c.push_bound_by.new.names c.new-binding.result (bound_by (exps_in c.args.inputs.now)) c.in_ok-known.ensures c.as_slice.ensures c.in_ok-push_bound_by.ensures c.new-binding.ensures) c.requires (sym c.are_known.ensures ∙ c.if-are_known.false)
    c.in_ok-variable.ensures
