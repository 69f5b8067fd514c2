use Rattle.std.proofs.Common.{◌≡◌, take}
use Rattle.st_dims.specs.Mentions.{names_in}
use Rattle.st_dims.proofs.expression.names_in.Given as goal

abbrev pub invariant-loop-mention : goal.invariant-loop-mention
invariant-loop-mention l = l.names ≡ names_in (take l.mention-index l.mentions)
