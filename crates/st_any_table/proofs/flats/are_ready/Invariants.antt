use Rattle.std.proofs.Common.{take}
use Rattle.st_any_table.specs.inner.Flats.{AllKnown}
use Rattle.st_any_table.proofs.flats.are_ready.Given as goal

abbrev pub invariant-loop-i : goal.invariant-loop-i
invariant-loop-i l = AllKnown l.defs l.flats (take l.i l.alternatives)
