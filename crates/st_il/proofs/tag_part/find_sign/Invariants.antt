use Rattle.std.proofs.Common.{take}
use Rattle.std.specs.List.{All}
use Rattle.st_il.proofs.TagParts.{Differs}
use Rattle.st_il.proofs.tag_part.find_sign.Given as goal

abbrev pub invariant-loop-sign : goal.invariant-loop-sign
invariant-loop-sign l = All (Differs l.text) (take l.sign-index l.signs)
