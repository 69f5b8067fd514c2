use Rattle.std.proofs.Common.{ap, ◌∙◌}
use Rattle.st_il.specs.Names.{without, least}
use Rattle.st_semantics.specs.Variables.{prem_vars}
use Rattle.st_order.specs.inner.Index.{names_in}
use Rattle.st_order.proofs.SameNames.{names_made}
use Rattle.st_order.proofs.EndingParts.{unordered_by}
use Rattle.st_order.proofs.order.fault_of_premise.Goals as goal

pub returns : goal.returns
returns c =
    ap (unordered_by c.args.left.number)
    (c.in_ok-variable.ensures
    ∙ ap (λ z. least (without (names_in c.args.selection.now.bound.keys) z))
    (names_made c.as_slice.result.now c.push_prem_vars.new.names c.new-names.result (prem_vars c.args.left.premise.now) c.as_slice.ensures c.in_ok-push_prem_vars.ensures c.new-names.ensures))
