use Rattle.std.proofs.Common.{◌+◌}
use Rattle.st_semantics.specs.Iterations.{index_of}
use Rattle.st_match.specs.inner.Scope.{entries_of, columns_now}
use Rattle.st_eval.specs.inner.Known.{names_now}
use Rattle.st_search.specs.inner.RunBy.{IsRunBy}
use Rattle.st_search.proofs.StepWays.{step_height}
use Rattle.st_search.proofs.LoopRuns.{AreWalked}
use Rattle.st_search.proofs.step.+step.Given as goal

abbrev pub decreases-run_step : goal.decreases-run_step
decreases-run_step g l = step_height l.step.now

abbrev pub decreases-run_loop : goal.decreases-run_loop
decreases-run_loop g l = 2 + step_height l.body.now

abbrev pub decreases-walk : goal.decreases-walk
decreases-walk g l = 1 + step_height l.body.now

abbrev pub invariant-walk-loop-at : goal.invariant-walk-loop-at
invariant-walk-loop-at g l =
    AreWalked l.search.setting.index.now l.search.setting.depth (g.F.Finder.answers l.finder) l.variables (λ bound p. IsRunBy l.search.setting.index.now bound l.variables p l.body) (index_of l.how) (names_now l.names) (entries_of l.scope)
    (columns_now l.columns) l.size l.at l.longest l.walks
