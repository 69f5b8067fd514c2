use Rattle.std.proofs.Common.{sym, ◌∙◌, ap, subst}
use Rattle.st_semantics.specs.declared.outcome.Outcomes.TheVariants.{Stopped}
use Rattle.st_il.specs.Definitions.{syntaxes}
use Rattle.st_semantics.specs.Evaluation.{tasks, GivesAll}
use Rattle.st_semantics.specs.Calls.{CallAt}
use Rattle.st_match.specs.inner.Scope.{scope_env}
use Rattle.st_search.proofs.GoalsOf.{ins_formed}
use Rattle.st_search.proofs.GoalRuns.{StopsGoal, goal_asked, goal_deep, goal_none}
use Rattle.st_search.proofs.Sequences.{ends_again}
use Rattle.st_search.proofs.goal.ask.Goals as goal

pub values_of-requires-clause-formed : goal.values_of-requires-clause-formed
values_of-requires-clause-formed g c = ins_formed c.args.search.now.setting.index.now c.requires.can.0 c.args.variables.now c.requires.can.1 c.args.relation.now c.args.ins.now c.args.outs.now c.requires.can.3

pub returns-in_err-found-in-Values-clause-stops : goal.returns-in_err-found-in-Values-clause-stops
returns-in_err-found-in-Values-clause-stops g c =
    let gives = subst (GivesAll (syntaxes c.args.search.now.setting.index.now) (CallAt c.args.search.now.setting.index.now c.args.search.now.setting.depth) (tasks (scope_env c.args.scope.now) c.args.ins.now)) c.in-Values.is c.in_ok-inputs.ensures in
    ends_again (StopsGoal c.args.search.now c.requires.search (g.F.Finder.answers c.args.finder.now) c.args.variables.now (scope_env c.args.scope.now) c.args.relation.now c.args.ins.now c.args.outs.now) c.from_residual-in_err-found-in-Values.result
    c.in_err-found-in-Values.field-0.0 c.from_residual-in_err-found-in-Values.ensures.1
    (λ left root bound p answers only goal searched. c.in_err-found-in-Values.ensures.stops left root bound p answers only
    (goal_asked c.args.search.now c.requires.search (g.F.Finder.answers c.args.finder.now) c.args.variables.now (scope_env c.args.scope.now) c.args.relation.now c.args.ins.now c.args.outs.now c.in-Values.inputs gives bound p goal) searched)

pub returns-in_ok-found-in-Values-clause-found : goal.returns-in_ok-found-in-Values-clause-found
returns-in_ok-found-in-Values-clause-found g c =
    let gives = subst (GivesAll (syntaxes c.args.search.now.setting.index.now) (CallAt c.args.search.now.setting.index.now c.args.search.now.setting.depth) (tasks (scope_env c.args.scope.now) c.args.ins.now)) c.in-Values.is c.in_ok-inputs.ensures in
    λ left root bound p answers only goal searched. c.in_ok-found-in-Values.ensures.found left root bound p answers only
    (goal_asked c.args.search.now c.requires.search (g.F.Finder.answers c.args.finder.now) c.args.variables.now (scope_env c.args.scope.now) c.args.relation.now c.args.ins.now c.args.outs.now c.in-Values.inputs gives bound p goal) searched

pub returns-in_err-found-in-Stopped-clause-stops : goal.returns-in_err-found-in-Stopped-clause-stops
returns-in_err-found-in-Stopped-clause-stops g c =
    let w = c.in_err-found-in-Stopped.ensures.stops in
    let gives = subst (GivesAll (syntaxes c.args.search.now.setting.index.now) (CallAt c.args.search.now.setting.index.now c.args.search.now.setting.depth) (tasks (scope_env c.args.scope.now) c.args.ins.now)) (c.in-Stopped.is ∙ ap Stopped w.0) c.in_ok-inputs.ensures in
    ends_again (StopsGoal c.args.search.now c.requires.search (g.F.Finder.answers c.args.finder.now) c.args.variables.now (scope_env c.args.scope.now) c.args.relation.now c.args.ins.now c.args.outs.now) c.from_residual-in_err-found-in-Stopped.result
    c.in_err-found-in-Stopped.field-0.0 c.from_residual-in_err-found-in-Stopped.ensures.1
    (subst (StopsGoal c.args.search.now c.requires.search (g.F.Finder.answers c.args.finder.now) c.args.variables.now (scope_env c.args.scope.now) c.args.relation.now c.args.ins.now c.args.outs.now) (sym w.1)
    (goal_deep c.args.search.now c.requires.search (g.F.Finder.answers c.args.finder.now) c.args.variables.now (scope_env c.args.scope.now) c.args.relation.now c.args.ins.now c.args.outs.now gives))

pub returns-in_ok-found-in-Stopped-clause-found : goal.returns-in_ok-found-in-Stopped-clause-found
returns-in_ok-found-in-Stopped-clause-found g c =
    let w = c.in_ok-found-in-Stopped.ensures.found in
    let gives = subst (GivesAll (syntaxes c.args.search.now.setting.index.now) (CallAt c.args.search.now.setting.index.now c.args.search.now.setting.depth) (tasks (scope_env c.args.scope.now) c.args.ins.now)) c.in-Stopped.is c.in_ok-inputs.ensures in
    goal_none c.args.search.now c.requires.search (g.F.Finder.answers c.args.finder.now) c.args.variables.now (scope_env c.args.scope.now) c.args.relation.now c.args.ins.now c.args.outs.now c.in-Stopped.outcome gives w.0 c.in_ok-found-in-Stopped.found w.1 w.2

pub returns-in_ok-found-in-Values-clause-binds : goal.returns-in_ok-found-in-Values-clause-binds
returns-in_ok-found-in-Values-clause-binds g c = λ bound p only goal. c.in_ok-found-in-Values.ensures.binds bound p only (c.args.ins.now, goal)
