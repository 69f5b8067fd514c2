use Rattle.std.proofs.Common.{take}
use Rattle.st_any_table.specs.inner.Pairs.{Grows, AreNumbered}
use Rattle.st_any_table.proofs.equal.tuple_waits.Given as goal

abbrev pub invariant-loop-i : goal.invariant-loop-i
invariant-loop-i l = Grows l.fn.pairs l.pairs × AreNumbered l.pairs l.numbers (take l.i l.ones) (take l.i l.others)
