use Rattle.std.proofs.Common.{◌≡◌, [], take}
use Rattle.st_dims.specs.Breaches.{idle}
use Rattle.st_dims.proofs.dimension.first_idle.Given as goal

abbrev pub invariant-loop-mention : goal.invariant-loop-mention
invariant-loop-mention l = idle (take l.mention-index l.mentions) l.shortest.entries ≡ []
