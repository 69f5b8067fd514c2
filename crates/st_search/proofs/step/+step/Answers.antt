use Rattle.std.proofs.Common.{rules, arith, ◌≡◌, ◌+◌, ◌<◌, ◌^◌, ◌++◌, refl, sym, ◌∙◌, ap, subst, List, []}
use Rattle.st_il.specs.declared.expression.IlPrem.{IlPrem}
use Rattle.st_semantics.specs.declared.outcome.Outcomes.TheVariants.{Values}
use Rattle.st_il.specs.Names.{Name, among}
use Rattle.st_semantics.specs.Environments.{names_of}
use Rattle.st_il.specs.Definitions.{syntaxes}
use Rattle.st_semantics.specs.Iterations.{index_of, spread, rows, Misfit, Over}
use Rattle.st_semantics.specs.Scopes.{listed_inside}
use Rattle.st_semantics.specs.Evaluation.{GivesAll, tasks}
use Rattle.st_semantics.specs.Depth.{bound_count}
use Rattle.st_semantics.specs.Calls.{CallAt}
use Rattle.st_match.specs.inner.Scope.{scope_env, entries_of, columns_now}
use Rattle.st_algo.specs.declared.algorithm.AlgoStep.{out-AlgoStep}
use Rattle.st_algo.specs.declared.algorithm.AlgoStep.TheVariants as step
use Rattle.st_eval.specs.Steps.{HasOnly}
use Rattle.st_eval.specs.inner.Known.{names_now}
use Rattle.st_search.specs.inner.Contracts.{IsGoalOf, FindsWhere, StopsWhere, BindsWhere, StopsAtAll}
use Rattle.st_search.specs.inner.Gathering.{AreGatheredTo, SomeTooHigh}
use Rattle.st_search.specs.inner.RunBy.{IsRunBy, IsLoopOf}
use Rattle.st_search.specs.inner.Sought.{StopsIf}
use Rattle.st_search.specs.inner.Walks.{step_asks}
use Rattle.st_search.proofs.Sequences.{ends_again}
use Rattle.st_search.proofs.StepWays.{run_let, step_height, step_height-loop}
use Rattle.st_search.proofs.StepFinds.{finds_as, finds_less, binds_less, stops_less, test_finds, test_binds, test_stops, let_bound, let_finds, let_binds, let_stops, goal_meant, loop_meant, nothing_finds}
use Rattle.st_search.proofs.LoopRuns.{walked_start, element_has, walked_none, walked_all, walked_next, walked_stops, bound_none, bound_all, loop_counted, loop_stopped, loop_misfit, loop_have, loop_inside, loop_stops, loop_bound, loop_finds, loop_too_high}
use Rattle.st_search.proofs.step.+step.Goals as goal

-- ---- at the elements

pub walk-loop-at-init : goal.walk-loop-at-init
walk-loop-at-init g t c = walked_start c.args.search.now.setting.index.now c.args.search.now.setting.depth (g.F.Finder.answers c.args.finder.now) c.args.variables.now (λ (bound : List Name) (p : IlPrem). IsRunBy c.args.search.now.setting.index.now bound c.args.variables.now p c.args.body.now) (index_of c.args.how.now) (names_now c.args.names.now) (entries_of c.args.scope.now) (columns_now c.args.columns.now) c.args.size 0 c.in_ok-walks.walks refl c.in_ok-walks.ensures

pub walk-returns-then-is_empty-clause-found : goal.walk-returns-then-is_empty-clause-found
walk-returns-then-is_empty-clause-found g t c = walked_none c.args.search.now.setting.index.now c.args.search.now.setting.depth (g.F.Finder.answers c.args.finder.now) c.args.variables.now (λ (bound : List Name) (p : IlPrem). IsRunBy c.args.search.now.setting.index.now bound c.args.variables.now p c.args.body.now) (index_of c.args.how.now) (names_now c.args.names.now) (entries_of c.args.scope.now) (columns_now c.args.columns.now) c.args.size c.loop-at.at c.loop-at.longest c.loop-at.walks (search rules) c.loop-at.invariant

pub walk-returns-then-is_empty-clause-binds : goal.walk-returns-then-is_empty-clause-binds
walk-returns-then-is_empty-clause-binds g t c = bound_none c.args.search.now.setting.index.now c.args.search.now.setting.depth (g.F.Finder.answers c.args.finder.now) c.args.variables.now (λ (bound : List Name) (p : IlPrem). IsRunBy c.args.search.now.setting.index.now bound c.args.variables.now p c.args.body.now) (index_of c.args.how.now) (names_now c.args.names.now) (entries_of c.args.scope.now) (columns_now c.args.columns.now) c.args.size c.loop-at.walks (search rules)

pub walk-run_step-requires : goal.walk-run_step-requires
walk-run_step-requires g t c κs within =
    let falls : step_height c.args.body.now < t = omega (arith, c.decreases) in
    let small : c.args.size < 2 ^ 128 = omega arith in
    let only = element_has c.args.search.now.setting.index.now c.args.search.now.setting.depth (g.F.Finder.answers c.args.finder.now) c.args.variables.now (λ (bound : List Name) (p : IlPrem). IsRunBy c.args.search.now.setting.index.now bound c.args.variables.now p c.args.body.now) (index_of c.args.how.now) (names_now c.args.names.now) (entries_of c.args.scope.now) (columns_now c.args.columns.now) c.args.size c.loop-at.at c.loop-at.longest c.loop-at.walks c.in_ok-inner.inner c.loop-at-test.true c.in_ok-inner.ensures c.loop-at.invariant c.requires.can.0 (c.requires.can.2 small) in (
      falls,
      (
        within,
        (
          c.requires.search,
          (
            c.requires.callable,
            (c.requires.can.0, c.requires.can.1, subst (λ z. HasOnly c.args.search.now.setting.index.now c.args.variables.now c.requires.can.0 (scope_env z)) (sym c.as_slice.ensures) only, c.requires.can.3),
          ),
        ),
      ),
    )

pub walk-returns-in_err-found-clause-stops : goal.walk-returns-in_err-found-clause-stops
walk-returns-in_err-found-clause-stops g t c =
    ends_again (StopsAtAll c.args.search.now.setting.index.now c.args.search.now.setting.depth (g.F.Finder.answers c.args.finder.now) c.args.variables.now (rows (index_of c.args.how.now) (names_now c.args.names.now) (entries_of c.args.scope.now) c.args.size 0 (columns_now c.args.columns.now)) (λ (bound : List Name) (p : IlPrem). IsRunBy c.args.search.now.setting.index.now bound c.args.variables.now p c.args.body.now)) c.from_residual-in_err-found.result c.in_err-found.field-0.0 c.from_residual-in_err-found.ensures.1
    (walked_stops c.args.search.now.setting.index.now c.args.search.now.setting.depth (g.F.Finder.answers c.args.finder.now) c.args.variables.now (λ (bound : List Name) (p : IlPrem). IsRunBy c.args.search.now.setting.index.now bound c.args.variables.now p c.args.body.now) (index_of c.args.how.now) (names_now c.args.names.now) (entries_of c.args.scope.now) (columns_now c.args.columns.now) c.args.size c.loop-at.at c.loop-at.longest c.loop-at.walks c.in_ok-inner.inner c.loop-at-test.true c.in_ok-inner.ensures c.loop-at.invariant (search rules) c.in_err-found.field-0.0
    (subst (λ z. StopsWhere c.args.search.now.setting.index.now c.args.search.now.setting.depth (g.F.Finder.answers c.args.finder.now) c.args.variables.now (scope_env z) (λ (bound : List Name) (p : IlPrem). IsRunBy c.args.search.now.setting.index.now bound c.args.variables.now p c.args.body.now) c.in_err-found.field-0.0) c.as_slice.ensures c.in_err-found.ensures.stops))

pub walk-loop-at-preserved : goal.walk-loop-at-preserved
walk-loop-at-preserved g t c =
    walked_next c.args.search.now.setting.index.now c.args.search.now.setting.depth (g.F.Finder.answers c.args.finder.now) c.args.variables.now (λ (bound : List Name) (p : IlPrem). IsRunBy c.args.search.now.setting.index.now bound c.args.variables.now p c.args.body.now) (index_of c.args.how.now) (names_now c.args.names.now) (entries_of c.args.scope.now) (columns_now c.args.columns.now) c.args.size c.loop-at.at c.loop-at.longest c.loop-at.walks c.in_ok-inner.inner c.loop-at-test.true c.in_ok-inner.ensures c.loop-at.invariant c.in_ok-found.found c.in_ok-walks-2.walks c.greater-longest.result
    c.in_ok-found.ensures.short (subst (λ z. FindsWhere c.args.search.now.setting.index.now c.args.search.now.setting.depth (g.F.Finder.answers c.args.finder.now) c.args.variables.now (scope_env z) (λ (bound : List Name) (p : IlPrem). IsRunBy c.args.search.now.setting.index.now bound c.args.variables.now p c.args.body.now) c.in_ok-found.found) c.as_slice.ensures c.in_ok-found.ensures.found)
    (subst (λ z. BindsWhere c.args.search.now.setting.index.now c.args.variables.now (scope_env z) (λ (bound : List Name) (p : IlPrem). IsRunBy c.args.search.now.setting.index.now bound c.args.variables.now p c.args.body.now) c.in_ok-found.found.items) c.as_slice.ensures c.in_ok-found.ensures.binds)
    (search rules) c.greater-longest.ensures.first c.greater-longest.ensures.second c.greater-longest.ensures.one

pub walk-returns-clause-found : goal.walk-returns-clause-found
walk-returns-clause-found g t c = walked_all c.args.search.now.setting.index.now c.args.search.now.setting.depth (g.F.Finder.answers c.args.finder.now) c.args.variables.now (λ (bound : List Name) (p : IlPrem). IsRunBy c.args.search.now.setting.index.now bound c.args.variables.now p c.args.body.now) (index_of c.args.how.now) (names_now c.args.names.now) (entries_of c.args.scope.now) (columns_now c.args.columns.now) c.args.size c.loop-at.at c.loop-at.longest c.loop-at.walks c.loop-at-test.false c.loop-at.invariant

pub walk-returns-clause-binds : goal.walk-returns-clause-binds
walk-returns-clause-binds g t c = bound_all c.args.search.now.setting.index.now c.args.search.now.setting.depth (g.F.Finder.answers c.args.finder.now) c.args.variables.now (λ (bound : List Name) (p : IlPrem). IsRunBy c.args.search.now.setting.index.now bound c.args.variables.now p c.args.body.now) (index_of c.args.how.now) (names_now c.args.names.now) (entries_of c.args.scope.now) (columns_now c.args.columns.now) c.args.size c.loop-at.at c.loop-at.longest c.loop-at.walks c.loop-at-test.false c.loop-at.invariant

-- ---- steps by their form

pub run_step-bind-requires-clause-pattern : goal.run_step-bind-requires-clause-pattern
run_step-bind-requires-clause-pattern g t c = (run_let c.args.search.now.setting.index.now c.requires.can.0 c.args.variables.now c.requires.can.1 c.args.step.now c.requires.can.3 c.in-Let.pattern c.in-Let.side (ap out-AlgoStep c.in-Let.is ∙ step.outs-Let c.in-Let.pattern c.in-Let.side)).2.matched

pub run_step-bind-requires-clause-bound : goal.run_step-bind-requires-clause-bound
run_step-bind-requires-clause-bound g t c = let_bound c.args.search.now.setting.index.now c.args.search.now.setting.depth (g.F.Finder.answers c.args.finder.now) c.args.variables.now (scope_env c.args.scope.now) c.args.step.now c.in-Let.pattern c.in-Let.side (ap out-AlgoStep c.in-Let.is ∙ step.outs-Let c.in-Let.pattern c.in-Let.side) c.requires.can.0 c.requires.can.1 c.requires.can.2 c.requires.can.3

pub run_step-ask-requires-clause-can : goal.run_step-ask-requires-clause-can
run_step-ask-requires-clause-can g t c = (
  c.requires.can.0,
  c.requires.can.1,
  c.requires.can.2,
  goal_meant c.args.search.now.setting.index.now c.args.search.now.setting.depth (g.F.Finder.answers c.args.finder.now) c.args.variables.now (scope_env c.args.scope.now) c.args.step.now c.in-Goal.relation c.in-Goal.ins c.in-Goal.outs c.as_slice-ins.result.now c.as_slice-outs.result.now (ap out-AlgoStep c.in-Goal.is ∙ step.outs-Goal c.in-Goal.relation c.in-Goal.ins c.in-Goal.outs) c.as_slice-ins.ensures c.as_slice-outs.ensures c.requires.can.0 c.requires.can.1 c.requires.can.3,
)

pub run_step-run_loop-requires : goal.run_step-run_loop-requires
run_step-run_loop-requires g t c κs within =
    let out = (ap out-AlgoStep c.in-Loop.is ∙ step.outs-Loop c.in-Loop.how c.in-Loop.names c.in-Loop.body) in
    let high : step_height c.args.step.now ≡ 3 + step_height c.in-Loop.body = step_height-loop c.args.step.now c.in-Loop.how c.in-Loop.names c.in-Loop.body out in
    let same : step_height c.get-body.result.now ≡ step_height c.in-Loop.body = ap step_height c.get-body.ensures in
    let falls : 2 + step_height c.get-body.result.now < t = omega (arith, high, same, c.decreases) in
    let meant = loop_meant c.args.search.now.setting.index.now c.args.search.now.setting.depth (g.F.Finder.answers c.args.finder.now) c.args.variables.now (scope_env c.args.scope.now) c.args.step.now c.in-Loop.how c.in-Loop.names c.as_slice-names.result.now c.in-Loop.body c.get-body.result.now (ap out-AlgoStep c.in-Loop.is ∙ step.outs-Loop c.in-Loop.how c.in-Loop.names c.in-Loop.body) c.as_slice-names.ensures c.get-body.ensures c.requires.can.0 c.requires.can.1 c.requires.can.3 in (
      falls,
      (within, (c.requires.search, (c.requires.callable, (c.requires.can.0, c.requires.can.1, meant.0, c.requires.can.2, meant.1)))),
    )

pub run_step-returns-in_ok-items-in-Test-clause-found : goal.run_step-returns-in_ok-items-in-Test-clause-found
run_step-returns-in_ok-items-in-Test-clause-found g t c = test_finds c.args.search.now.setting.index.now c.args.search.now.setting.depth (g.F.Finder.answers c.args.finder.now) c.args.variables.now (scope_env c.args.scope.now) c.args.step.now c.in-Test.exp (ap out-AlgoStep c.in-Test.is ∙ step.outs-Test c.in-Test.exp) c.in_ok-items-in-Test.items c.in_ok-items-in-Test.ensures.found

pub run_step-returns-in_ok-items-in-Test-clause-binds : goal.run_step-returns-in_ok-items-in-Test-clause-binds
run_step-returns-in_ok-items-in-Test-clause-binds g t c = test_binds c.args.search.now.setting.index.now c.args.search.now.setting.depth (g.F.Finder.answers c.args.finder.now) c.args.variables.now (scope_env c.args.scope.now) c.args.step.now c.in-Test.exp (ap out-AlgoStep c.in-Test.is ∙ step.outs-Test c.in-Test.exp) c.in_ok-items-in-Test.items c.in_ok-items-in-Test.ensures.found

pub run_step-returns-in_ok-items-in-Let-clause-found : goal.run_step-returns-in_ok-items-in-Let-clause-found
run_step-returns-in_ok-items-in-Let-clause-found g t c = let_finds c.args.search.now.setting.index.now c.args.search.now.setting.depth (g.F.Finder.answers c.args.finder.now) c.args.variables.now (scope_env c.args.scope.now) c.args.step.now c.in-Let.pattern c.in-Let.side (ap out-AlgoStep c.in-Let.is ∙ step.outs-Let c.in-Let.pattern c.in-Let.side) c.in_ok-items-in-Let.items c.in_ok-items-in-Let.ensures.found

pub run_step-returns-in_ok-items-in-Let-clause-binds : goal.run_step-returns-in_ok-items-in-Let-clause-binds
run_step-returns-in_ok-items-in-Let-clause-binds g t c = let_binds c.args.search.now.setting.index.now c.args.search.now.setting.depth (g.F.Finder.answers c.args.finder.now) c.args.variables.now (scope_env c.args.scope.now) c.args.step.now c.in-Let.pattern c.in-Let.side (ap out-AlgoStep c.in-Let.is ∙ step.outs-Let c.in-Let.pattern c.in-Let.side) c.in_ok-items-in-Let.items c.in_ok-items-in-Let.ensures.found

pub run_step-returns-in_ok-found-in-Goal-clause-found : goal.run_step-returns-in_ok-found-in-Goal-clause-found
run_step-returns-in_ok-found-in-Goal-clause-found g t c = finds_less c.args.search.now.setting.index.now c.args.search.now.setting.depth (g.F.Finder.answers c.args.finder.now) c.args.variables.now (scope_env c.args.scope.now) (λ (bound : List Name) (p : IlPrem). IsRunBy c.args.search.now.setting.index.now bound c.args.variables.now p c.args.step.now) (λ (bound : List Name) (p : IlPrem). IsGoalOf c.args.search.now.setting.index.now bound c.args.variables.now p c.in-Goal.relation c.as_slice-ins.result.now c.as_slice-outs.result.now) (goal_meant c.args.search.now.setting.index.now c.args.search.now.setting.depth (g.F.Finder.answers c.args.finder.now) c.args.variables.now (scope_env c.args.scope.now) c.args.step.now c.in-Goal.relation c.in-Goal.ins c.in-Goal.outs c.as_slice-ins.result.now c.as_slice-outs.result.now (ap out-AlgoStep c.in-Goal.is ∙ step.outs-Goal c.in-Goal.relation c.in-Goal.ins c.in-Goal.outs) c.as_slice-ins.ensures c.as_slice-outs.ensures) c.in_ok-found-in-Goal.found c.in_ok-found-in-Goal.ensures.found

pub run_step-returns-in_ok-found-in-Goal-clause-binds : goal.run_step-returns-in_ok-found-in-Goal-clause-binds
run_step-returns-in_ok-found-in-Goal-clause-binds g t c = binds_less c.args.search.now.setting.index.now c.args.search.now.setting.depth (g.F.Finder.answers c.args.finder.now) c.args.variables.now (scope_env c.args.scope.now) (λ (bound : List Name) (p : IlPrem). IsRunBy c.args.search.now.setting.index.now bound c.args.variables.now p c.args.step.now) (λ (bound : List Name) (p : IlPrem). IsGoalOf c.args.search.now.setting.index.now bound c.args.variables.now p c.in-Goal.relation c.as_slice-ins.result.now c.as_slice-outs.result.now) (goal_meant c.args.search.now.setting.index.now c.args.search.now.setting.depth (g.F.Finder.answers c.args.finder.now) c.args.variables.now (scope_env c.args.scope.now) c.args.step.now c.in-Goal.relation c.in-Goal.ins c.in-Goal.outs c.as_slice-ins.result.now c.as_slice-outs.result.now (ap out-AlgoStep c.in-Goal.is ∙ step.outs-Goal c.in-Goal.relation c.in-Goal.ins c.in-Goal.outs) c.as_slice-ins.ensures c.as_slice-outs.ensures) c.in_ok-found-in-Goal.found.items c.in_ok-found-in-Goal.ensures.binds

pub run_step-returns-in_ok-found-in-Loop-clause-found : goal.run_step-returns-in_ok-found-in-Loop-clause-found
run_step-returns-in_ok-found-in-Loop-clause-found g t c = finds_less c.args.search.now.setting.index.now c.args.search.now.setting.depth (g.F.Finder.answers c.args.finder.now) c.args.variables.now (scope_env c.args.scope.now) (λ (bound : List Name) (p : IlPrem). IsRunBy c.args.search.now.setting.index.now bound c.args.variables.now p c.args.step.now) (λ (bound : List Name) (p : IlPrem). (inner : IlPrem) × IsLoopOf c.args.search.now.setting.index.now bound c.args.variables.now p c.in-Loop.how c.as_slice-names.result.now inner c.get-body.result.now) (loop_meant c.args.search.now.setting.index.now c.args.search.now.setting.depth (g.F.Finder.answers c.args.finder.now) c.args.variables.now (scope_env c.args.scope.now) c.args.step.now c.in-Loop.how c.in-Loop.names c.as_slice-names.result.now c.in-Loop.body c.get-body.result.now (ap out-AlgoStep c.in-Loop.is ∙ step.outs-Loop c.in-Loop.how c.in-Loop.names c.in-Loop.body) c.as_slice-names.ensures c.get-body.ensures) c.in_ok-found-in-Loop.found c.in_ok-found-in-Loop.ensures.found

pub run_step-returns-in_ok-found-in-Loop-clause-binds : goal.run_step-returns-in_ok-found-in-Loop-clause-binds
run_step-returns-in_ok-found-in-Loop-clause-binds g t c = binds_less c.args.search.now.setting.index.now c.args.search.now.setting.depth (g.F.Finder.answers c.args.finder.now) c.args.variables.now (scope_env c.args.scope.now) (λ (bound : List Name) (p : IlPrem). IsRunBy c.args.search.now.setting.index.now bound c.args.variables.now p c.args.step.now) (λ (bound : List Name) (p : IlPrem). (inner : IlPrem) × IsLoopOf c.args.search.now.setting.index.now bound c.args.variables.now p c.in-Loop.how c.as_slice-names.result.now inner c.get-body.result.now) (loop_meant c.args.search.now.setting.index.now c.args.search.now.setting.depth (g.F.Finder.answers c.args.finder.now) c.args.variables.now (scope_env c.args.scope.now) c.args.step.now c.in-Loop.how c.in-Loop.names c.as_slice-names.result.now c.in-Loop.body c.get-body.result.now (ap out-AlgoStep c.in-Loop.is ∙ step.outs-Loop c.in-Loop.how c.in-Loop.names c.in-Loop.body) c.as_slice-names.ensures c.get-body.ensures) c.in_ok-found-in-Loop.found.items c.in_ok-found-in-Loop.ensures.binds

pub run_step-returns-in-Match-clause-found : goal.run_step-returns-in-Match-clause-found
run_step-returns-in-Match-clause-found g t c = nothing_finds c.args.search.now.setting.index.now c.args.search.now.setting.depth (g.F.Finder.answers c.args.finder.now) c.args.variables.now (scope_env c.args.scope.now) c.args.step.now c.in-Match.is c.nothing.result

-- ---- what stops a step

pub run_step-returns-in_err-items-in-Test-clause-stops : goal.run_step-returns-in_err-items-in-Test-clause-stops
run_step-returns-in_err-items-in-Test-clause-stops g t c =
    ends_again (StopsWhere c.args.search.now.setting.index.now c.args.search.now.setting.depth (g.F.Finder.answers c.args.finder.now) c.args.variables.now (scope_env c.args.scope.now) (λ (bound : List Name) (p : IlPrem). IsRunBy c.args.search.now.setting.index.now bound c.args.variables.now p c.args.step.now)) c.from_residual.result c.in_err-items-in-Test.field-0.0 c.from_residual.ensures.1
    (test_stops c.args.search.now.setting.index.now c.args.search.now.setting.depth (g.F.Finder.answers c.args.finder.now) c.args.variables.now (scope_env c.args.scope.now) c.args.step.now c.in-Test.exp (ap out-AlgoStep c.in-Test.is ∙ step.outs-Test c.in-Test.exp) c.in_err-items-in-Test.field-0.0 c.in_err-items-in-Test.ensures.stops)

pub run_step-returns-in_err-items-in-Let-clause-stops : goal.run_step-returns-in_err-items-in-Let-clause-stops
run_step-returns-in_err-items-in-Let-clause-stops g t c =
    ends_again (StopsWhere c.args.search.now.setting.index.now c.args.search.now.setting.depth (g.F.Finder.answers c.args.finder.now) c.args.variables.now (scope_env c.args.scope.now) (λ (bound : List Name) (p : IlPrem). IsRunBy c.args.search.now.setting.index.now bound c.args.variables.now p c.args.step.now)) c.from_residual-in_err-items-in-Let.result c.in_err-items-in-Let.field-0.0 c.from_residual-in_err-items-in-Let.ensures.1
    (let_stops c.args.search.now.setting.index.now c.args.search.now.setting.depth (g.F.Finder.answers c.args.finder.now) c.args.variables.now (scope_env c.args.scope.now) c.args.step.now c.in-Let.pattern c.in-Let.side (ap out-AlgoStep c.in-Let.is ∙ step.outs-Let c.in-Let.pattern c.in-Let.side) c.in_err-items-in-Let.field-0.0 c.in_err-items-in-Let.ensures.stops)

pub run_step-returns-in_err-found-in-Goal-clause-stops : goal.run_step-returns-in_err-found-in-Goal-clause-stops
run_step-returns-in_err-found-in-Goal-clause-stops g t c =
    ends_again (StopsWhere c.args.search.now.setting.index.now c.args.search.now.setting.depth (g.F.Finder.answers c.args.finder.now) c.args.variables.now (scope_env c.args.scope.now) (λ (bound : List Name) (p : IlPrem). IsRunBy c.args.search.now.setting.index.now bound c.args.variables.now p c.args.step.now)) c.from_residual-in_err-found-in-Goal.result c.in_err-found-in-Goal.field-0.0 c.from_residual-in_err-found-in-Goal.ensures.1
    (stops_less c.args.search.now.setting.index.now c.args.search.now.setting.depth (g.F.Finder.answers c.args.finder.now) c.args.variables.now (scope_env c.args.scope.now) (λ (bound : List Name) (p : IlPrem). IsRunBy c.args.search.now.setting.index.now bound c.args.variables.now p c.args.step.now) (λ (bound : List Name) (p : IlPrem). IsGoalOf c.args.search.now.setting.index.now bound c.args.variables.now p c.in-Goal.relation c.as_slice-ins.result.now c.as_slice-outs.result.now) (goal_meant c.args.search.now.setting.index.now c.args.search.now.setting.depth (g.F.Finder.answers c.args.finder.now) c.args.variables.now (scope_env c.args.scope.now) c.args.step.now c.in-Goal.relation c.in-Goal.ins c.in-Goal.outs c.as_slice-ins.result.now c.as_slice-outs.result.now (ap out-AlgoStep c.in-Goal.is ∙ step.outs-Goal c.in-Goal.relation c.in-Goal.ins c.in-Goal.outs) c.as_slice-ins.ensures c.as_slice-outs.ensures) c.in_err-found-in-Goal.field-0.0 c.in_err-found-in-Goal.ensures.stops)

pub run_step-returns-in_err-found-in-Loop-clause-stops : goal.run_step-returns-in_err-found-in-Loop-clause-stops
run_step-returns-in_err-found-in-Loop-clause-stops g t c =
    ends_again (StopsWhere c.args.search.now.setting.index.now c.args.search.now.setting.depth (g.F.Finder.answers c.args.finder.now) c.args.variables.now (scope_env c.args.scope.now) (λ (bound : List Name) (p : IlPrem). IsRunBy c.args.search.now.setting.index.now bound c.args.variables.now p c.args.step.now)) c.from_residual-in_err-found-in-Loop.result c.in_err-found-in-Loop.field-0.0 c.from_residual-in_err-found-in-Loop.ensures.1
    (stops_less c.args.search.now.setting.index.now c.args.search.now.setting.depth (g.F.Finder.answers c.args.finder.now) c.args.variables.now (scope_env c.args.scope.now) (λ (bound : List Name) (p : IlPrem). IsRunBy c.args.search.now.setting.index.now bound c.args.variables.now p c.args.step.now) (λ (bound : List Name) (p : IlPrem). (inner : IlPrem) × IsLoopOf c.args.search.now.setting.index.now bound c.args.variables.now p c.in-Loop.how c.as_slice-names.result.now inner c.get-body.result.now) (loop_meant c.args.search.now.setting.index.now c.args.search.now.setting.depth (g.F.Finder.answers c.args.finder.now) c.args.variables.now (scope_env c.args.scope.now) c.args.step.now c.in-Loop.how c.in-Loop.names c.as_slice-names.result.now c.in-Loop.body c.get-body.result.now (ap out-AlgoStep c.in-Loop.is ∙ step.outs-Loop c.in-Loop.how c.in-Loop.names c.in-Loop.body) c.as_slice-names.ensures c.get-body.ensures) c.in_err-found-in-Loop.field-0.0 c.in_err-found-in-Loop.ensures.stops)

-- ---- an iterated step

pub run_loop-returns-in_err-found-in-Stopped-clause-stops : goal.run_loop-returns-in_err-found-in-Stopped-clause-stops
run_loop-returns-in_err-found-in-Stopped-clause-stops g t c =
    let known_are : (names_now c.as_slice-known.result.now) ≡ names_of (scope_env c.args.scope.now) = ap names_now c.as_slice-known.ensures ∙ c.in_ok-known.ensures in
    let gives = subst (GivesAll (syntaxes c.args.search.now.setting.index.now) (CallAt c.args.search.now.setting.index.now c.args.search.now.setting.depth) (tasks (scope_env c.args.scope.now) (bound_count (names_now c.as_slice-known.result.now) c.args.how.now))) c.in-Stopped.is c.in_ok-count.ensures in
    ends_again (StopsWhere c.args.search.now.setting.index.now c.args.search.now.setting.depth (g.F.Finder.answers c.args.finder.now) c.args.variables.now (scope_env c.args.scope.now) (λ (bound : List Name) (p : IlPrem). (inner : IlPrem) × IsLoopOf c.args.search.now.setting.index.now bound c.args.variables.now p c.args.how.now c.args.names.now inner c.args.body.now)) c.from_residual-in_err-found-in-Stopped.result c.in_err-found-in-Stopped.field-0.0 c.from_residual-in_err-found-in-Stopped.ensures.1
    (loop_counted c.args.search.now.setting.index.now c.requires.search.searchable.stable c.requires.search.searchable.evaluable.single c.args.search.now.setting.depth (g.F.Finder.answers c.args.finder.now) c.args.variables.now (scope_env c.args.scope.now) c.args.how.now c.args.names.now c.args.body.now (names_now c.as_slice-known.result.now) known_are c.in-Stopped.outcome gives c.in_err-found-in-Stopped.field-0.0 c.in_err-found-in-Stopped.ensures.stops)

pub run_loop-returns-in-Stopped-clause-found : goal.run_loop-returns-in-Stopped-clause-found
run_loop-returns-in-Stopped-clause-found g t c =
    let w = c.in_ok-found-in-Stopped.ensures.found in
    let known_are : (names_now c.as_slice-known.result.now) ≡ names_of (scope_env c.args.scope.now) = ap names_now c.as_slice-known.ensures ∙ c.in_ok-known.ensures in
    let gives = subst (GivesAll (syntaxes c.args.search.now.setting.index.now) (CallAt c.args.search.now.setting.index.now c.args.search.now.setting.depth) (tasks (scope_env c.args.scope.now) (bound_count (names_now c.as_slice-known.result.now) c.args.how.now))) c.in-Stopped.is c.in_ok-count.ensures in
    finds_as c.args.search.now.setting.index.now c.args.search.now.setting.depth (g.F.Finder.answers c.args.finder.now) c.args.variables.now (scope_env c.args.scope.now) (λ (bound : List Name) (p : IlPrem). (inner : IlPrem) × IsLoopOf c.args.search.now.setting.index.now bound c.args.variables.now p c.args.how.now c.args.names.now inner c.args.body.now) [] 0 c.in_ok-found-in-Stopped.found w.1 w.2 (loop_stopped c.args.search.now.setting.index.now c.requires.search.searchable.stable c.requires.search.searchable.evaluable.single c.args.search.now.setting.depth (g.F.Finder.answers c.args.finder.now) c.args.variables.now (scope_env c.args.scope.now) c.args.how.now c.args.names.now c.args.body.now (names_now c.as_slice-known.result.now) known_are c.in-Stopped.outcome gives w.0)

pub run_loop-returns-in-None-clause-found : goal.run_loop-returns-in-None-clause-found
run_loop-returns-in-None-clause-found g t c =
    let known_are : (names_now c.as_slice-known.result.now) ≡ names_of (scope_env c.args.scope.now) = ap names_now c.as_slice-known.ensures ∙ c.in_ok-known.ensures in
    let names_are : (names_now c.as_slice-bound.result.now) ≡ among (names_now c.as_slice-known.result.now) c.args.names.now = ap names_now c.as_slice-bound.ensures ∙ c.in_ok-bound-in-Values.ensures in
    let gives = subst (λ z. GivesAll (syntaxes c.args.search.now.setting.index.now) (CallAt c.args.search.now.setting.index.now c.args.search.now.setting.depth) (tasks (scope_env c.args.scope.now) (bound_count (names_now c.as_slice-known.result.now) c.args.how.now)) (Values z)) (sym c.as_slice.ensures) (subst (GivesAll (syntaxes c.args.search.now.setting.index.now) (CallAt c.args.search.now.setting.index.now c.args.search.now.setting.depth) (tasks (scope_env c.args.scope.now) (bound_count (names_now c.as_slice-known.result.now) c.args.how.now))) c.in-Values.is c.in_ok-count.ensures) in
    let misfit : spread c.args.how.now (names_now c.as_slice-bound.result.now) (scope_env c.args.scope.now) c.as_slice.result.now ≡ Misfit = search rules in
    finds_as c.args.search.now.setting.index.now c.args.search.now.setting.depth (g.F.Finder.answers c.args.finder.now) c.args.variables.now (scope_env c.args.scope.now) (λ (bound : List Name) (p : IlPrem). (inner : IlPrem) × IsLoopOf c.args.search.now.setting.index.now bound c.args.variables.now p c.args.how.now c.args.names.now inner c.args.body.now) [] 0 c.nothing.result c.nothing.ensures.items c.nothing.ensures.longest (loop_misfit c.args.search.now.setting.index.now c.requires.search.searchable.stable c.requires.search.searchable.evaluable.single c.args.search.now.setting.depth (g.F.Finder.answers c.args.finder.now) c.args.variables.now (scope_env c.args.scope.now) c.args.how.now c.args.names.now c.args.body.now (names_now c.as_slice-known.result.now) known_are (names_now c.as_slice-bound.result.now) names_are c.as_slice.result.now gives misfit)

pub run_loop-walk-requires : goal.run_loop-walk-requires
run_loop-walk-requires g t c κs within =
    let known_are : (names_now c.as_slice-known.result.now) ≡ names_of (scope_env c.args.scope.now) = ap names_now c.as_slice-known.ensures ∙ c.in_ok-known.ensures in
    let names_are : (names_now c.as_slice-bound.result.now) ≡ among (names_now c.as_slice-known.result.now) c.args.names.now = ap names_now c.as_slice-bound.ensures ∙ c.in_ok-bound-in-Values.ensures in
    let gives = subst (λ z. GivesAll (syntaxes c.args.search.now.setting.index.now) (CallAt c.args.search.now.setting.index.now c.args.search.now.setting.depth) (tasks (scope_env c.args.scope.now) (bound_count (names_now c.as_slice-known.result.now) c.args.how.now)) (Values z)) (sym c.as_slice.ensures) (subst (GivesAll (syntaxes c.args.search.now.setting.index.now) (CallAt c.args.search.now.setting.index.now c.args.search.now.setting.depth) (tasks (scope_env c.args.scope.now) (bound_count (names_now c.as_slice-known.result.now) c.args.how.now))) c.in-Values.is c.in_ok-count.ensures) in
    let inside_are : c.as_slice-in-Some.result.now ≡ listed_inside c.args.how.now c.args.names.now c.args.variables.now = c.as_slice-in-Some.ensures ∙ c.in_ok-inside-in-Some.ensures in
    let table : spread c.args.how.now (names_now c.as_slice-bound.result.now) (scope_env c.args.scope.now) c.as_slice.result.now ≡ Over (rows (index_of c.args.how.now) (names_now c.as_slice-bound.result.now) (entries_of c.args.scope.now) c.in-Some.elements.size 0 (columns_now c.in-Some.elements.columns)) = search rules in
    let over = subst (λ z. spread c.args.how.now (names_now c.as_slice-bound.result.now) (scope_env c.args.scope.now) c.as_slice.result.now ≡ Over (rows (index_of c.args.how.now) (names_now c.as_slice-bound.result.now) (entries_of c.args.scope.now) c.in-Some.elements.size 0 (columns_now z))) (sym c.as_slice-in-Some-2.ensures) table in
    let falls : 1 + step_height c.args.body.now < t = omega (arith, c.decreases) in (
      falls,
      (
        within,
        (
          c.requires.search,
          (
            c.requires.callable,
            (
              index_of c.args.how.now ++ c.requires.can.0,
              c.requires.can.2,
              λ small. loop_have c.args.search.now.setting.index.now c.requires.search.searchable.stable c.requires.search.searchable.evaluable.single c.args.search.now.setting.depth (g.F.Finder.answers c.args.finder.now) c.args.variables.now (scope_env c.args.scope.now) c.args.how.now c.args.names.now c.args.body.now (names_now c.as_slice-known.result.now) known_are (names_now c.as_slice-bound.result.now) names_are c.as_slice.result.now gives c.as_slice-in-Some.result.now inside_are c.in-Some.elements.size (columns_now c.as_slice-in-Some-2.result.now) over small c.requires.can.0 c.requires.can.1 c.requires.can.3 (c.requires.can.2, c.requires.can.4),
              loop_inside c.args.search.now.setting.index.now c.requires.search.searchable.stable c.requires.search.searchable.evaluable.single c.args.search.now.setting.depth (g.F.Finder.answers c.args.finder.now) c.args.variables.now (scope_env c.args.scope.now) c.args.how.now c.args.names.now c.args.body.now (names_now c.as_slice-known.result.now) known_are (names_now c.as_slice-bound.result.now) names_are c.as_slice.result.now gives c.as_slice-in-Some.result.now inside_are c.in-Some.elements.size (columns_now c.as_slice-in-Some-2.result.now) over c.requires.can.0 c.requires.can.1 (c.requires.can.2, c.requires.can.4),
            ),
          ),
        ),
      ),
    )

pub run_loop-returns-in_err-walks-in-Some-clause-stops : goal.run_loop-returns-in_err-walks-in-Some-clause-stops
run_loop-returns-in_err-walks-in-Some-clause-stops g t c =
    let known_are : (names_now c.as_slice-known.result.now) ≡ names_of (scope_env c.args.scope.now) = ap names_now c.as_slice-known.ensures ∙ c.in_ok-known.ensures in
    let names_are : (names_now c.as_slice-bound.result.now) ≡ among (names_now c.as_slice-known.result.now) c.args.names.now = ap names_now c.as_slice-bound.ensures ∙ c.in_ok-bound-in-Values.ensures in
    let gives = subst (λ z. GivesAll (syntaxes c.args.search.now.setting.index.now) (CallAt c.args.search.now.setting.index.now c.args.search.now.setting.depth) (tasks (scope_env c.args.scope.now) (bound_count (names_now c.as_slice-known.result.now) c.args.how.now)) (Values z)) (sym c.as_slice.ensures) (subst (GivesAll (syntaxes c.args.search.now.setting.index.now) (CallAt c.args.search.now.setting.index.now c.args.search.now.setting.depth) (tasks (scope_env c.args.scope.now) (bound_count (names_now c.as_slice-known.result.now) c.args.how.now))) c.in-Values.is c.in_ok-count.ensures) in
    let inside_are : c.as_slice-in-Some.result.now ≡ listed_inside c.args.how.now c.args.names.now c.args.variables.now = c.as_slice-in-Some.ensures ∙ c.in_ok-inside-in-Some.ensures in
    let table : spread c.args.how.now (names_now c.as_slice-bound.result.now) (scope_env c.args.scope.now) c.as_slice.result.now ≡ Over (rows (index_of c.args.how.now) (names_now c.as_slice-bound.result.now) (entries_of c.args.scope.now) c.in-Some.elements.size 0 (columns_now c.in-Some.elements.columns)) = search rules in
    let over = subst (λ z. spread c.args.how.now (names_now c.as_slice-bound.result.now) (scope_env c.args.scope.now) c.as_slice.result.now ≡ Over (rows (index_of c.args.how.now) (names_now c.as_slice-bound.result.now) (entries_of c.args.scope.now) c.in-Some.elements.size 0 (columns_now z))) (sym c.as_slice-in-Some-2.ensures) table in
    ends_again (StopsWhere c.args.search.now.setting.index.now c.args.search.now.setting.depth (g.F.Finder.answers c.args.finder.now) c.args.variables.now (scope_env c.args.scope.now) (λ (bound : List Name) (p : IlPrem). (inner : IlPrem) × IsLoopOf c.args.search.now.setting.index.now bound c.args.variables.now p c.args.how.now c.args.names.now inner c.args.body.now)) c.from_residual-in_err-walks-in-Some.result c.in_err-walks-in-Some.field-0.0 c.from_residual-in_err-walks-in-Some.ensures.1
    (loop_stops c.args.search.now.setting.index.now c.requires.search.searchable.stable c.requires.search.searchable.evaluable.single c.args.search.now.setting.depth (g.F.Finder.answers c.args.finder.now) c.args.variables.now (scope_env c.args.scope.now) c.args.how.now c.args.names.now c.args.body.now (names_now c.as_slice-known.result.now) known_are (names_now c.as_slice-bound.result.now) names_are c.as_slice.result.now gives c.as_slice-in-Some.result.now inside_are c.in-Some.elements.size (columns_now c.as_slice-in-Some-2.result.now) over c.in_err-walks-in-Some.ensures.small c.in_err-walks-in-Some.field-0.0 c.in_err-walks-in-Some.ensures.stops)

pub run_loop-returns-in_err-found-in-Some-clause-stops : goal.run_loop-returns-in_err-found-in-Some-clause-stops
run_loop-returns-in_err-found-in-Some-clause-stops g t c =
    let known_are : (names_now c.as_slice-known.result.now) ≡ names_of (scope_env c.args.scope.now) = ap names_now c.as_slice-known.ensures ∙ c.in_ok-known.ensures in
    let names_are : (names_now c.as_slice-bound.result.now) ≡ among (names_now c.as_slice-known.result.now) c.args.names.now = ap names_now c.as_slice-bound.ensures ∙ c.in_ok-bound-in-Values.ensures in
    let gives = subst (λ z. GivesAll (syntaxes c.args.search.now.setting.index.now) (CallAt c.args.search.now.setting.index.now c.args.search.now.setting.depth) (tasks (scope_env c.args.scope.now) (bound_count (names_now c.as_slice-known.result.now) c.args.how.now)) (Values z)) (sym c.as_slice.ensures) (subst (GivesAll (syntaxes c.args.search.now.setting.index.now) (CallAt c.args.search.now.setting.index.now c.args.search.now.setting.depth) (tasks (scope_env c.args.scope.now) (bound_count (names_now c.as_slice-known.result.now) c.args.how.now))) c.in-Values.is c.in_ok-count.ensures) in
    let inside_are : c.as_slice-in-Some.result.now ≡ listed_inside c.args.how.now c.args.names.now c.args.variables.now = c.as_slice-in-Some.ensures ∙ c.in_ok-inside-in-Some.ensures in
    let table : spread c.args.how.now (names_now c.as_slice-bound.result.now) (scope_env c.args.scope.now) c.as_slice.result.now ≡ Over (rows (index_of c.args.how.now) (names_now c.as_slice-bound.result.now) (entries_of c.args.scope.now) c.in-Some.elements.size 0 (columns_now c.in-Some.elements.columns)) = search rules in
    let over = subst (λ z. spread c.args.how.now (names_now c.as_slice-bound.result.now) (scope_env c.args.scope.now) c.as_slice.result.now ≡ Over (rows (index_of c.args.how.now) (names_now c.as_slice-bound.result.now) (entries_of c.args.scope.now) c.in-Some.elements.size 0 (columns_now z))) (sym c.as_slice-in-Some-2.ensures) table in
    let walks = c.in_ok-walks-in-Some.walks in
    ends_again (StopsWhere c.args.search.now.setting.index.now c.args.search.now.setting.depth (g.F.Finder.answers c.args.finder.now) c.args.variables.now (scope_env c.args.scope.now) (λ (bound : List Name) (p : IlPrem). (inner : IlPrem) × IsLoopOf c.args.search.now.setting.index.now bound c.args.variables.now p c.args.how.now c.args.names.now inner c.args.body.now)) c.from_residual-in_err-found-in-Some.result c.in_err-found-in-Some.field-0.0 c.from_residual-in_err-found-in-Some.ensures.1
    (loop_too_high c.args.search.now.setting.index.now c.requires.search.searchable.stable c.requires.search.searchable.evaluable.single c.args.search.now.setting.depth (g.F.Finder.answers c.args.finder.now) c.args.variables.now (scope_env c.args.scope.now) c.args.how.now c.args.names.now c.args.body.now (names_now c.as_slice-known.result.now) known_are (names_now c.as_slice-bound.result.now) names_are c.as_slice.result.now gives c.as_slice-in-Some.result.now inside_are c.in-Some.elements.size (columns_now c.as_slice-in-Some-2.result.now) over c.in_ok-walks-in-Some.ensures.small walks c.in_ok-walks-in-Some.ensures.found c.in_err-found-in-Some.field-0.0
    (subst (λ z. StopsIf (SomeTooHigh z c.args.variables.now (names_now c.as_slice-known.result.now) c.args.how.now c.args.names.now walks.items) c.in_err-found-in-Some.field-0.0) c.requires.search.searchable.evaluable.types_are c.in_err-found-in-Some.ensures.stops))

pub run_loop-returns-clause-found : goal.run_loop-returns-clause-found
run_loop-returns-clause-found g t c =
    let known_are : (names_now c.as_slice-known.result.now) ≡ names_of (scope_env c.args.scope.now) = ap names_now c.as_slice-known.ensures ∙ c.in_ok-known.ensures in
    let names_are : (names_now c.as_slice-bound.result.now) ≡ among (names_now c.as_slice-known.result.now) c.args.names.now = ap names_now c.as_slice-bound.ensures ∙ c.in_ok-bound-in-Values.ensures in
    let gives = subst (λ z. GivesAll (syntaxes c.args.search.now.setting.index.now) (CallAt c.args.search.now.setting.index.now c.args.search.now.setting.depth) (tasks (scope_env c.args.scope.now) (bound_count (names_now c.as_slice-known.result.now) c.args.how.now)) (Values z)) (sym c.as_slice.ensures) (subst (GivesAll (syntaxes c.args.search.now.setting.index.now) (CallAt c.args.search.now.setting.index.now c.args.search.now.setting.depth) (tasks (scope_env c.args.scope.now) (bound_count (names_now c.as_slice-known.result.now) c.args.how.now))) c.in-Values.is c.in_ok-count.ensures) in
    let inside_are : c.as_slice-in-Some.result.now ≡ listed_inside c.args.how.now c.args.names.now c.args.variables.now = c.as_slice-in-Some.ensures ∙ c.in_ok-inside-in-Some.ensures in
    let table : spread c.args.how.now (names_now c.as_slice-bound.result.now) (scope_env c.args.scope.now) c.as_slice.result.now ≡ Over (rows (index_of c.args.how.now) (names_now c.as_slice-bound.result.now) (entries_of c.args.scope.now) c.in-Some.elements.size 0 (columns_now c.in-Some.elements.columns)) = search rules in
    let over = subst (λ z. spread c.args.how.now (names_now c.as_slice-bound.result.now) (scope_env c.args.scope.now) c.as_slice.result.now ≡ Over (rows (index_of c.args.how.now) (names_now c.as_slice-bound.result.now) (entries_of c.args.scope.now) c.in-Some.elements.size 0 (columns_now z))) (sym c.as_slice-in-Some-2.ensures) table in
    let walks = c.in_ok-walks-in-Some.walks in
    let found = c.in_ok-found-in-Some.found in
    finds_as c.args.search.now.setting.index.now c.args.search.now.setting.depth (g.F.Finder.answers c.args.finder.now) c.args.variables.now (scope_env c.args.scope.now) (λ (bound : List Name) (p : IlPrem). (inner : IlPrem) × IsLoopOf c.args.search.now.setting.index.now bound c.args.variables.now p c.args.how.now c.args.names.now inner c.args.body.now) found.items walks.longest found refl c.in_ok-found-in-Some.ensures.longest
    (loop_finds c.args.search.now.setting.index.now c.requires.search.searchable.stable c.requires.search.searchable.evaluable.single c.args.search.now.setting.depth (g.F.Finder.answers c.args.finder.now) c.args.variables.now (scope_env c.args.scope.now) c.args.how.now c.args.names.now c.args.body.now (names_now c.as_slice-known.result.now) known_are (names_now c.as_slice-bound.result.now) names_are c.as_slice.result.now gives c.as_slice-in-Some.result.now inside_are c.in-Some.elements.size (columns_now c.as_slice-in-Some-2.result.now) over c.in_ok-walks-in-Some.ensures.small walks c.in_ok-walks-in-Some.ensures.found found.items
    (subst (λ z. AreGatheredTo z c.args.variables.now (names_now c.as_slice-known.result.now) c.args.how.now c.args.names.now (step_asks c.args.body.now) walks.items found.items) c.requires.search.searchable.evaluable.types_are c.in_ok-found-in-Some.ensures.found))

pub run_loop-returns-clause-binds : goal.run_loop-returns-clause-binds
run_loop-returns-clause-binds g t c =
    let known_are : (names_now c.as_slice-known.result.now) ≡ names_of (scope_env c.args.scope.now) = ap names_now c.as_slice-known.ensures ∙ c.in_ok-known.ensures in
    let names_are : (names_now c.as_slice-bound.result.now) ≡ among (names_now c.as_slice-known.result.now) c.args.names.now = ap names_now c.as_slice-bound.ensures ∙ c.in_ok-bound-in-Values.ensures in
    let gives = subst (λ z. GivesAll (syntaxes c.args.search.now.setting.index.now) (CallAt c.args.search.now.setting.index.now c.args.search.now.setting.depth) (tasks (scope_env c.args.scope.now) (bound_count (names_now c.as_slice-known.result.now) c.args.how.now)) (Values z)) (sym c.as_slice.ensures) (subst (GivesAll (syntaxes c.args.search.now.setting.index.now) (CallAt c.args.search.now.setting.index.now c.args.search.now.setting.depth) (tasks (scope_env c.args.scope.now) (bound_count (names_now c.as_slice-known.result.now) c.args.how.now))) c.in-Values.is c.in_ok-count.ensures) in
    let inside_are : c.as_slice-in-Some.result.now ≡ listed_inside c.args.how.now c.args.names.now c.args.variables.now = c.as_slice-in-Some.ensures ∙ c.in_ok-inside-in-Some.ensures in
    let table : spread c.args.how.now (names_now c.as_slice-bound.result.now) (scope_env c.args.scope.now) c.as_slice.result.now ≡ Over (rows (index_of c.args.how.now) (names_now c.as_slice-bound.result.now) (entries_of c.args.scope.now) c.in-Some.elements.size 0 (columns_now c.in-Some.elements.columns)) = search rules in
    let over = subst (λ z. spread c.args.how.now (names_now c.as_slice-bound.result.now) (scope_env c.args.scope.now) c.as_slice.result.now ≡ Over (rows (index_of c.args.how.now) (names_now c.as_slice-bound.result.now) (entries_of c.args.scope.now) c.in-Some.elements.size 0 (columns_now z))) (sym c.as_slice-in-Some-2.ensures) table in
    let walks = c.in_ok-walks-in-Some.walks in
    let found = c.in_ok-found-in-Some.found in
    loop_bound c.args.search.now.setting.index.now c.requires.search.searchable.stable c.requires.search.searchable.evaluable.single c.args.search.now.setting.depth (g.F.Finder.answers c.args.finder.now) c.args.variables.now (scope_env c.args.scope.now) c.args.how.now c.args.names.now c.args.body.now (names_now c.as_slice-known.result.now) known_are (names_now c.as_slice-bound.result.now) names_are c.as_slice.result.now gives c.as_slice-in-Some.result.now inside_are c.in-Some.elements.size (columns_now c.as_slice-in-Some-2.result.now) over c.in_ok-walks-in-Some.ensures.small walks.items c.in_ok-walks-in-Some.ensures.binds found.items
    (subst (λ z. AreGatheredTo z c.args.variables.now (names_now c.as_slice-known.result.now) c.args.how.now c.args.names.now (step_asks c.args.body.now) walks.items found.items) c.requires.search.searchable.evaluable.types_are c.in_ok-found-in-Some.ensures.found)
