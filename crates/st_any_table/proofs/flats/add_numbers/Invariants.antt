use Rattle.std.proofs.Common.{take}
use Rattle.st_any_table.specs.inner.Flats.{IsAdding}
use Rattle.st_any_table.proofs.flats.add_numbers.Given as goal

abbrev pub invariant-loop-number : goal.invariant-loop-number
invariant-loop-number l = IsAdding l.fn.numbers (take l.number-index l.more) l.numbers
