use Rattle.st_any_table.specs.inner.Flats.{IsFilling, left}
use Rattle.st_any_table.proofs.flats.flats_of.Given as goal

abbrev pub invariant-passes : goal.invariant-passes
invariant-passes l = IsFilling l.defs l.flats.items l.cases l.changed

abbrev pub decreases-passes : goal.decreases-passes
decreases-passes l = left l.changed l.flats.items
