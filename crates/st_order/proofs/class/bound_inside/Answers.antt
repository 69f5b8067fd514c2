use Rattle.st_il.specs.Names.{among}
use Rattle.st_semantics.specs.Iterations.{index_of}
use Rattle.st_order.specs.inner.Index.{names_in}
use Rattle.st_order.proofs.ClassParts.{inside_is}
use Rattle.st_order.proofs.class.bound_inside.Goals as goal

pub returns : goal.returns
returns c =
    inside_is (names_in c.in_ok-inside.inside.keys) c.as_slice.result.now c.push_known.new.names c.push_refs.new.names c.push_index.new.names c.new-names.result
    (among (names_in c.args.bound.now.keys) (names_in c.args.listed.now)) (names_in c.args.others.now) (index_of c.args.how.now) c.in_ok-inside.ensures c.as_slice.ensures
    c.in_ok-push_known.ensures c.new-names.ensures c.in_ok-push_refs.ensures c.in_ok-push_index.ensures
