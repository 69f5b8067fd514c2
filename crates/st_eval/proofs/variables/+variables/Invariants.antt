use Rattle.std.proofs.Common.{◌≡◌, ◌+◌, ◌++◌, max, drop}
use Rattle.st_semantics.specs.Iterations.{count_of}
use Rattle.st_semantics.specs.Variables.{vars_of}
use Rattle.st_semantics.specs.References.{exps_now}
use Rattle.st_semantics.specs.inner.Weight.{weight, heaviest}
use Rattle.st_eval.specs.inner.Known.{names_now}
use Rattle.st_eval.proofs.variables.+variables.Given as goal

abbrev pub decreases-variables : goal.decreases-variables
decreases-variables l = weight l.exp.now

abbrev pub decreases-variables_of : goal.decreases-variables_of
decreases-variables_of l = 1 + heaviest (exps_now l.exps.now)

abbrev pub decreases-iteration_variables : goal.decreases-iteration_variables
decreases-iteration_variables l = 2 + max (heaviest (count_of l.how.now)) (weight l.body.now)

abbrev pub invariant-variables_of-loop-i : goal.invariant-variables_of-loop-i
invariant-variables_of-loop-i l = names_now l.names ++ vars_of (exps_now (drop l.i l.exps)) ≡ vars_of (exps_now l.exps)
