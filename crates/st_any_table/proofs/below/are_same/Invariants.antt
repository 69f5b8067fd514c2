use Rattle.std.proofs.Common.{◌↔◌, drop}
use Rattle.st_type_table.specs.Same.{SameAll}
use Rattle.st_any_table.proofs.below.are_same.Given as goal

abbrev pub invariant-loop-i : goal.invariant-loop-i
invariant-loop-i l = SameAll l.survey.defs (drop l.i l.ones) (drop l.i l.others) ↔ SameAll l.survey.defs l.ones l.others
