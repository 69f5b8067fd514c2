use Rattle.std.proofs.Common.{take}
use Rattle.std.specs.List.{All}
use Rattle.st_small.specs.inner.SmallForm.{IsLetter}
use Rattle.st_small.proofs.reader.word.count_letters.Given as goal

abbrev pub invariant-loop-i : goal.invariant-loop-i
invariant-loop-i l = All (IsLetter l.case) (take l.i l.bytes)
