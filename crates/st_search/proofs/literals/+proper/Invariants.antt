use Rattle.std.proofs.Common.{◌+◌}
use Rattle.st_semantics.specs.References.{exps_now}
use Rattle.st_semantics.specs.inner.Weight.{weight, heaviest}
use Rattle.st_search.proofs.ProperLists.{AreProperFrom}
use Rattle.st_search.proofs.literals.+proper.Given as goal

abbrev pub decreases-proper_exp : goal.decreases-proper_exp
decreases-proper_exp l = weight l.exp.now

abbrev pub decreases-proper_exps : goal.decreases-proper_exps
decreases-proper_exps l = 1 + heaviest (exps_now l.exps.now)

abbrev pub invariant-proper_exps-loop-i : goal.invariant-proper_exps-loop-i
invariant-proper_exps-loop-i l = AreProperFrom l.exps l.i
