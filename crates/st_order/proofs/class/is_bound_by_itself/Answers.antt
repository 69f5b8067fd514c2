use Rattle.std.proofs.Common.{◌∙◌, ◌++◌}
use Rattle.st_semantics.specs.Variables.{vars}
use Rattle.st_semantics.specs.Patterns.{binds}
use Rattle.st_order.specs.inner.Index.{names_in}
use Rattle.st_order.proofs.SameNames.{known_same, SameNames-behind, SameNames-made}
use Rattle.st_order.proofs.class.is_bound_by_itself.Goals as goal

pub returns : goal.returns
returns c =
    let bound = names_in c.args.bound.now.keys in
    let more = names_in c.in_ok-more.more.keys in
    let own = binds c.args.pattern.now in
    c.in_ok-is.ensures
    ∙ known_same (bound ++ more) (bound ++ own)
    (SameNames-behind bound more own (SameNames-made more c.as_slice.result.now c.push_bound.new.names c.new-names.result own c.in_ok-more.ensures c.as_slice.ensures c.in_ok-push_bound.ensures c.new-names.ensures))
    (vars c.args.pattern.now)
