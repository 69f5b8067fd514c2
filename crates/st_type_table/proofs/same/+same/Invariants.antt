use Rattle.std.proofs.Common.{◌↔◌, ◌+◌, ◌*◌, drop}
use Rattle.st_type_table.specs.Same.{SameAll}
use Rattle.st_type_table.proofs.Measure.{measure, measure_all}
use Rattle.st_type_table.proofs.same.+same.Given as goal

abbrev pub decreases-same : goal.decreases-same
decreases-same l = 2 * measure l.table.now l.a.now + 1

abbrev pub decreases-same_at : goal.decreases-same_at
decreases-same_at l = 2 * measure l.table.now l.a.now

abbrev pub decreases-same_all : goal.decreases-same_all
decreases-same_all l = 2 * measure_all l.table.now l.ones.now

abbrev pub invariant-same_all-loop-i : goal.invariant-same_all-loop-i
invariant-same_all-loop-i l = SameAll l.table (drop l.i l.ones) (drop l.i l.others) ↔ SameAll l.table l.ones l.others
