use Rattle.std.proofs.Common.{◌∙◌}
use Rattle.st_order.specs.inner.Index.{names_in}
use Rattle.st_modes.proofs.ClauseParts.{names_are_bound}
use Rattle.st_modes.proofs.clause_modes.bind.Goals as goal

pub returns : goal.returns
returns c =
    c.are_known.ensures
    ∙ names_are_bound c.args.args.now (names_in c.args.names.now) (names_in c.in_ok-known.known.keys) c.as_slice.result.now c.push_all_bound.new.names c.new-binding.result c.requires c.in_ok-known.ensures c.as_slice.ensures c.in_ok-push_all_bound.ensures c.new-binding.ensures
