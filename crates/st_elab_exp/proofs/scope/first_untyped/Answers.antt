use Rattle.st_dims.specs.Mentions.{occurrence_of}
use Rattle.st_dims.proofs.Lists.{first_passing}
use Rattle.st_elab_table.specs.Scopes.{is_untyped}
use Rattle.st_elab_exp.proofs.scope.first_untyped.Goals as goal

pub returns-in-Some : goal.returns-in-Some
returns-in-Some c =
    first_passing occurrence_of (is_untyped c.args.decls.now) (λ occurrence. occurrence.at) c.args.mentions.now c.loop-mention.mention-index _ _ _
    c.loop-mention-test.true c.mention-item.is c.loop-mention.invariant c.in_ok-at.ensures c.in-Some.is
