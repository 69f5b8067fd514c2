use Rattle.st_order.specs.inner.Index.{names_in}
use Rattle.st_order.proofs.ClassParts.{others_made}
use Rattle.st_order.proofs.class.others.Goals as goal

pub returns : goal.returns
returns c =
    others_made c.args.how.now (names_in c.args.listed.now) c.args.body.now (names_in c.in_ok-listed.listed.keys) c.as_slice.result.now c.push_prem_vars.new.names c.new-inner.result c.as_slice-2.result.now c.push_others.new.names c.new-without_index.result
    c.push_unknown.new.names c.new-names.result c.in_ok-listed.ensures
    c.as_slice.ensures c.in_ok-push_prem_vars.ensures c.new-inner.ensures c.as_slice-2.ensures c.in_ok-push_others.ensures c.new-without_index.ensures c.in_ok-push_unknown.ensures c.new-names.ensures
