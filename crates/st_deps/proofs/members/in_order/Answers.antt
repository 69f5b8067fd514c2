use Rattle.std.proofs.Common.{ap, ◌∙◌, List, ◌++◌, ◌∷◌, []}
use Rattle.st_deps.specs.Cited.{Name}
use Rattle.st_deps.proofs.MembersLemmas.{ordered-more}
use Rattle.st_deps.proofs.members.in_order.Goals as goal

pub loop-group-preserved : goal.loop-group-preserved
loop-group-preserved c =
    ordered-more c.args.members.now c.args.order.now c.loop-group.group-index c.index-members-group.result c.loop-group.groups c.push.new.self c.loop-group-test.true
    (c.requires c.loop-group.group-index 0 c.loop-group-test.true) c.index-members-group.is c.loop-group.invariant
    (c.in_ok-push.ensures.ok ∙ ap (λ (row : List Name). c.loop-group.groups ++ row ∷ []) (c.in_ok-copy_names.ensures ∙ c.as_slice.ensures))
