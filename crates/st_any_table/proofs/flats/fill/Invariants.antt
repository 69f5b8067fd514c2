use Rattle.st_any_table.specs.inner.Flats.{IsFillPass}
use Rattle.st_any_table.proofs.flats.fill.Given as goal

abbrev pub invariant-loop-at : goal.invariant-loop-at
invariant-loop-at l = IsFillPass l.defs l.fn.flats l.flats l.cases l.changed l.at
