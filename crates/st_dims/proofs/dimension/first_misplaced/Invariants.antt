use Rattle.std.proofs.Common.{◌≡◌, [], take}
use Rattle.st_dims.specs.Breaches.{misplaced}
use Rattle.st_dims.proofs.dimension.first_misplaced.Given as goal

abbrev pub invariant-loop-mention : goal.invariant-loop-mention
invariant-loop-mention l = misplaced l.indices (take l.mention-index l.mentions) l.shortest.entries ≡ []
