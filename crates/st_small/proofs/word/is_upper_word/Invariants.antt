use Rattle.std.proofs.Common.{take}
use Rattle.std.specs.List.{All}
use Rattle.st_il.specs.Small.{IsUpper}
use Rattle.st_small.proofs.word.is_upper_word.Given as goal

abbrev pub invariant-loop-byte : goal.invariant-loop-byte
invariant-loop-byte l = All IsUpper (take l.byte-index l.word)
