use Rattle.st_dims.specs.Mentions.{iteration_of}
use Rattle.st_dims.specs.Breaches.{is_idle}
use Rattle.st_dims.proofs.Lists.{first_passing}
use Rattle.st_dims.proofs.dimension.first_idle.Goals as goal

pub returns-in-Some : goal.returns-in-Some
returns-in-Some c =
    first_passing iteration_of (is_idle c.args.shortest.now.entries) (λ iteration. iteration.at) c.args.mentions.now c.loop-mention.mention-index _ _ _
    c.loop-mention-test.true c.mention-item.is c.loop-mention.invariant c.idle_at.ensures c.in-Some.is
