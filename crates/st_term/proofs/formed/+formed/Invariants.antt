use Rattle.std.proofs.Common.{◌+◌}
use Rattle.st_semantics.specs.References.{exps_now}
use Rattle.st_semantics.specs.inner.Weight.{weight, heaviest}
use Rattle.st_term.proofs.FormedExps.{AreFormedFrom}
use Rattle.st_term.proofs.formed.+formed.Given as goal

abbrev pub decreases-formed : goal.decreases-formed
decreases-formed l = weight l.exp.now

abbrev pub decreases-all_formed : goal.decreases-all_formed
decreases-all_formed l = 1 + heaviest (exps_now l.exps.now)

abbrev pub invariant-all_formed-loop-i : goal.invariant-all_formed-loop-i
invariant-all_formed-loop-i l = AreFormedFrom l.types l.exps l.i
