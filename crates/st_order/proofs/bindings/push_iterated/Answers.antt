use Rattle.st_order.specs.inner.Index.{names_in}
use Rattle.st_order.proofs.BoundParts.{iterated_made}
use Rattle.st_order.proofs.bindings.push_iterated.Goals as goal

pub returns : goal.returns
returns c =
    iterated_made c.args.how.now c.args.list.now (names_in c.args.inner.now) (names_in c.in_ok-listed.listed.keys) c.as_slice.result.now c.push_names.new.names c.new-listed.result c.as_slice-2.result.now c.push_others.new.names c.new-others.result
    (names_in c.args.names.now) (names_in c.push_known.new.names) c.in_ok-listed.ensures c.as_slice.ensures c.in_ok-push_names.ensures c.new-listed.ensures
    c.as_slice-2.ensures c.in_ok-push_others.ensures c.new-others.ensures c.in_ok-push_known.ensures
