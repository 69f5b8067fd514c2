use Rattle.std.proofs.Common.{◌∙◌}
use Rattle.st_order.specs.inner.Index.{names_in}
use Rattle.st_modes.proofs.ClauseParts.{m6_names}
use Rattle.st_modes.proofs.clause_modes.keeps_m6.Goals as goal

pub returns : goal.returns
returns c =
    c.in_ok-is.ensures
    ∙ m6_names c.args.clause.now (names_in c.in_ok-bound.bound.keys) c.as_slice-3.result.now c.push_prems_vars.new.names c.push_all_vars.new.names c.new-names.result c.as_slice.result.now c.as_slice-2.result.now
    c.in_ok-bound.ensures c.as_slice-3.ensures c.in_ok-push_prems_vars.ensures c.as_slice-2.ensures c.in_ok-push_all_vars.ensures c.as_slice.ensures c.new-names.ensures
