use Rattle.std.proofs.Common.{ap, ◌∙◌}
use Rattle.st_order.specs.inner.Index.{names_in}
use Rattle.st_order.proofs.SameNames.{names_made}
use Rattle.st_algo.proofs.StepParts.{inside_read}
use Rattle.st_algo.proofs.step.inside_of.Goals as goal

pub returns : goal.returns
returns c =
    inside_read (names_in c.args.bound.now.keys) c.args.how.now c.args.list.now (names_in c.as_slice-listed.result.now) (names_in c.as_slice-rest.result.now) c.args.body.now (names_in c.in_ok-inside.inside.keys)
    (names_made c.as_slice-listed.result.now c.push_names.new.names c.new-listed.result c.args.list.now c.as_slice-listed.ensures c.in_ok-push_names.ensures c.new-listed.ensures)
    (ap names_in c.as_slice-rest.ensures ∙ c.in_ok-rest.ensures) c.in_ok-inside.ensures
