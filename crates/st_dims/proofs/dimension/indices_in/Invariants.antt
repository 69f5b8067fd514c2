use Rattle.std.proofs.Common.{◌≡◌, take}
use Rattle.st_dims.specs.Mentions.{indices_in}
use Rattle.st_dims.proofs.dimension.indices_in.Given as goal

abbrev pub invariant-loop-mention : goal.invariant-loop-mention
invariant-loop-mention l = l.indices ≡ indices_in (take l.mention-index l.mentions)
