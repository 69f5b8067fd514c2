use Rattle.std.proofs.Common.{◌++◌, ◌∙◌, ap}
use Rattle.st_il.specs.Names.{has_name}
use Rattle.st_semantics.specs.Variables.{prem_vars}
use Rattle.st_order.specs.inner.Index.{names_in}
use Rattle.st_order.proofs.SameNames.{names_made}
use Rattle.st_algo.proofs.lowering.bind.Goals as goal

pub returns : goal.returns
returns c q =
    c.in_ok-add_all.ensures q
    ∙ ap (λ z. has_name (names_in c.args.bound.now.keys ++ z) q) (names_made c.as_slice.result.now c.push_prem_vars.new.names c.new-names.result (prem_vars c.args.prem.now) c.as_slice.ensures c.in_ok-push_prem_vars.ensures c.new-names.ensures)
