use Rattle.std.proofs.Common.{◌+◌, max, drop}
use Rattle.st_semantics.specs.declared.outcome.Outcomes.{Outcomes}
use Rattle.st_semantics.specs.Iterations.{count_of, index_of, rows}
use Rattle.st_semantics.specs.Evaluation.{GivesAll, tasks, each_task}
use Rattle.st_match.specs.inner.Prefix.{behind_values}
use Rattle.st_match.specs.inner.Scope.{scope_env, entries_of, columns_now}
use Rattle.st_semantics.specs.References.{exps_now}
use Rattle.st_semantics.specs.inner.Weight.{weight, heaviest}
use Rattle.st_match.proofs.Builds.{rows_left}
use Rattle.st_match.proofs.evaluation.+value.Given as goal

abbrev pub decreases-outcome_of : goal.decreases-outcome_of
decreases-outcome_of g l = weight l.exp.now

abbrev pub decreases-outcomes_of : goal.decreases-outcomes_of
decreases-outcomes_of g l = 1 + heaviest (exps_now l.exps.now)

abbrev pub decreases-iterated : goal.decreases-iterated
decreases-iterated g l = 2 + max (heaviest (count_of l.how.now)) (weight l.body.now)

abbrev pub decreases-at_elements : goal.decreases-at_elements
decreases-at_elements g l = 1 + weight l.body.now

abbrev pub invariant-outcomes_of-loop-i : goal.invariant-outcomes_of-loop-i
invariant-outcomes_of-loop-i g l =
    (r : Outcomes) → GivesAll l.types (g.C.Caller.answers l.caller) (tasks (scope_env l.scope) (exps_now (drop l.i l.exps))) r
    → GivesAll l.types (g.C.Caller.answers l.caller) (tasks (scope_env l.scope) (exps_now l.exps)) (behind_values l.values r)

abbrev pub invariant-at_elements-loop-at : goal.invariant-at_elements-loop-at
invariant-at_elements-loop-at g l =
    (r : Outcomes)
    → GivesAll l.types (g.C.Caller.answers l.caller) (each_task (rows_left (index_of l.how) l.names (entries_of l.scope) (columns_now l.elements.columns) l.elements.size l.at) l.body) r
    → GivesAll l.types (g.C.Caller.answers l.caller) (each_task (rows (index_of l.how) l.names (entries_of l.scope) l.elements.size 0 (columns_now l.elements.columns)) l.body) (behind_values l.values r)
