use Rattle.std.proofs.Common.{take}
use Rattle.st_any_table.specs.inner.Flats.{IsFlattening}
use Rattle.st_any_table.proofs.flats.flat_of_alternatives.Given as goal

abbrev pub invariant-loop-i : goal.invariant-loop-i
invariant-loop-i l = IsFlattening l.defs l.flats l.cases l.numbers (take l.i l.alternatives)
