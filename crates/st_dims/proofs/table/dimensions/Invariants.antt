use Rattle.std.proofs.Common.{take}
use Rattle.st_dims.specs.Mentions.{occurrences_in}
use Rattle.st_dims.specs.Dimensions.{HasDimensions}
use Rattle.st_dims.proofs.table.dimensions.Given as goal

-- the dimensions of the occurrences so far are known
abbrev pub invariant-loop-mention : goal.invariant-loop-mention
invariant-loop-mention l = HasDimensions (occurrences_in (take l.mention-index l.mentions)) l.shortest.entries
