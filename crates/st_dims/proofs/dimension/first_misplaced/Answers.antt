use Rattle.st_dims.specs.Mentions.{occurrence_of}
use Rattle.st_dims.specs.Breaches.{is_misplaced}
use Rattle.st_dims.proofs.Lists.{first_passing}
use Rattle.st_dims.proofs.dimension.first_misplaced.Goals as goal

pub returns-in-Some : goal.returns-in-Some
returns-in-Some c =
    first_passing occurrence_of (is_misplaced c.args.indices.now c.args.shortest.now.entries) (λ occurrence. occurrence.at) c.args.mentions.now c.loop-mention.mention-index _ _ _
    c.loop-mention-test.true c.mention-item.is c.loop-mention.invariant c.misplaced_at.ensures c.in-Some.is
