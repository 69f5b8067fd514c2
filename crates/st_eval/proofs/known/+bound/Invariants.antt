use Rattle.std.proofs.Common.{◌≡◌, ◌+◌, max, drop}
use Rattle.st_il.specs.Names.{all_known}
use Rattle.st_semantics.specs.Iterations.{count_of}
use Rattle.st_semantics.specs.Variables.{vars_of}
use Rattle.st_semantics.specs.References.{exps_now}
use Rattle.st_semantics.specs.inner.Weight.{weight, heaviest}
use Rattle.st_eval.specs.inner.Known.{names_now}
use Rattle.st_eval.proofs.known.+bound.Given as goal

abbrev pub decreases-is_bound : goal.decreases-is_bound
decreases-is_bound l = weight l.exp.now

abbrev pub decreases-are_bound : goal.decreases-are_bound
decreases-are_bound l = 1 + heaviest (exps_now l.exps.now)

abbrev pub decreases-is_iteration_bound : goal.decreases-is_iteration_bound
decreases-is_iteration_bound l = 2 + max (heaviest (count_of l.how.now)) (weight l.body.now)

abbrev pub invariant-are_bound-loop-i : goal.invariant-are_bound-loop-i
invariant-are_bound-loop-i l =
    all_known (names_now l.known) (vars_of (exps_now l.exps)) ≡ all_known (names_now l.known) (vars_of (exps_now (drop l.i l.exps)))
