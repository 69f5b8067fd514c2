use Rattle.std.proofs.Common.{◌≡◌, ◌++◌, map, take}
use Rattle.st_dims.specs.declared.mention.Mention.TheVariants.{Indexes}
use Rattle.st_dims.proofs.expression.add_indices.Given as goal

abbrev pub invariant-loop-name : goal.invariant-loop-name
invariant-loop-name l = l.mentions.items ≡ l.initial.mentions.items ++ map Indexes (take l.name-index l.names)
