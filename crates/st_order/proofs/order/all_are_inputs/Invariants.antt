use Rattle.std.proofs.Common.{◌≡◌, drop}
use Rattle.std.specs.List.{list_all}
use Rattle.st_semantics.specs.Orders.{is_input}
use Rattle.st_order.specs.inner.Parts.{exps_in}
use Rattle.st_order.proofs.order.all_are_inputs.Given as goal

abbrev pub invariant-loop-input : goal.invariant-loop-input
invariant-loop-input l = list_all is_input (exps_in l.inputs) ≡ list_all is_input (exps_in (drop l.input-index l.inputs))
