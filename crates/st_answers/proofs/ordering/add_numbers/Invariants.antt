use Rattle.std.proofs.Common.{◌≡◌, ◌++◌, take}
use Rattle.st_answers.specs.OrderTexts.{numbers_text}
use Rattle.st_answers.proofs.ordering.add_numbers.Given as goal

abbrev pub invariant-loop-number : goal.invariant-loop-number
invariant-loop-number l = l.bytes.items ≡ l.initial.bytes.items ++ numbers_text (take l.number-index l.numbers)
