use Rattle.std.proofs.Common.{take}
use Rattle.std.specs.List.{All}
use Rattle.st_il.proofs.ReservedWords.{IsOther}
use Rattle.st_il.proofs.reserved.is_one_of.Given as goal

abbrev pub invariant-loop-word : goal.invariant-loop-word
invariant-loop-word l = All (IsOther l.text) (take l.word-index l.words)
