use Rattle.std.proofs.Common.{take}
use Rattle.std.specs.List.{All}
use Rattle.st_il.specs.Small.{IsUpper, IsWordOf}
use Rattle.st_small.proofs.word.are_upper_words.Given as goal

abbrev pub invariant-loop-word : goal.invariant-loop-word
invariant-loop-word l = All (IsWordOf IsUpper) (take l.word-index l.words)
