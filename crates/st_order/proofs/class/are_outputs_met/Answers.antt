use Rattle.std.proofs.Common.{◌∙◌}
use Rattle.st_semantics.specs.Patterns.{bound_by}
use Rattle.st_order.specs.inner.Index.{names_in}
use Rattle.st_order.specs.inner.Parts.{exps_in}
use Rattle.st_order.proofs.SameNames.{SameNames-made}
use Rattle.st_order.proofs.SameClass.{outputs_same}
use Rattle.st_order.proofs.class.are_outputs_met.Goals as goal

pub returns : goal.returns
returns c =
    let more = names_in c.in_ok-more.more.keys in
    let own = bound_by (exps_in c.args.exps.now) in
    c.in_ok-are.ensures
    ∙ outputs_same (names_in c.args.bound.now.keys) more own
    (SameNames-made more c.as_slice.result.now c.push_bound_by.new.names c.new-names.result own c.in_ok-more.ensures c.as_slice.ensures c.in_ok-push_bound_by.ensures c.new-names.ensures) (exps_in c.args.exps.now)
