use Rattle.std.proofs.Common.{◌≡◌, true, take}
use Rattle.std.specs.List.{list_all}
use Rattle.st_text.specs.Text.{is_word_byte}
use Rattle.st_text.proofs.word.word_len.Given as goal

abbrev pub invariant-loop-at : goal.invariant-loop-at
invariant-loop-at l = list_all is_word_byte (take l.at l.bytes) ≡ true
