use Rattle.std.proofs.Common.{take}
use Rattle.std.specs.List.{All}
use Rattle.st_il.specs.Small.{IsLower}
use Rattle.st_small.proofs.word.is_lower_word.Given as goal

abbrev pub invariant-loop-byte : goal.invariant-loop-byte
invariant-loop-byte l = All IsLower (take l.byte-index l.word)
