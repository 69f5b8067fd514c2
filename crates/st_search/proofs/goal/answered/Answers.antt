use Rattle.std.proofs.Common.{◌≡◌, sym, ◌∙◌, subst}
use Rattle.st_il.specs.Definitions.{syntaxes}
use Rattle.st_match.specs.inner.Scope.{scope_env}
use Rattle.st_search.specs.declared.holes.Evaluated.TheVariants.{Computed}
use Rattle.st_search.specs.inner.Chains.{stop_by}
use Rattle.st_search.specs.inner.Holes.{AreHoles}
use Rattle.st_search.specs.inner.Meeting.{AllMeetings}
use Rattle.st_search.proofs.Binds.{answered_binds}
use Rattle.st_search.proofs.GoalsOf.{outs_formed, patterns_all, patterns_formed, patterns_bound}
use Rattle.st_search.proofs.GoalRuns.{StopsAsked, asked_found, holes_stop, asked_stop}
use Rattle.st_search.proofs.Sequences.{ends_by, ends_again}
use Rattle.st_search.proofs.goal.answered.Goals as goal

pub holes_of-requires-clause-formed : goal.holes_of-requires-clause-formed
holes_of-requires-clause-formed g c = outs_formed c.args.search.now.setting.index.now c.requires.can.0 c.args.variables.now c.requires.can.1 c.args.relation.now c.requires.can.2 c.args.outs.now c.requires.can.4

pub returns-in_err-holes-clause-stops : goal.returns-in_err-holes-clause-stops
returns-in_err-holes-clause-stops g c =
    ends_again (StopsAsked c.args.search.now c.requires.search (g.F.Finder.answers c.args.finder.now) c.args.variables.now (scope_env c.args.scope.now) c.args.relation.now c.args.inputs c.args.outs.now) c.from_residual.result c.in_err-holes.field-0.0
    c.from_residual.ensures.1
    (holes_stop c.args.search.now c.requires.search (g.F.Finder.answers c.args.finder.now) c.args.variables.now (scope_env c.args.scope.now) c.args.relation.now c.args.inputs c.args.outs.now c.in_err-holes.field-0.0 c.in_err-holes.ensures.stops)

pub returns-in_err-answers-clause-stops : goal.returns-in_err-answers-clause-stops
returns-in_err-answers-clause-stops g c =
    ends_by (λ y. y ≡ stop_by c.in_err-answers.field-0.0)
    (StopsAsked c.args.search.now c.requires.search (g.F.Finder.answers c.args.finder.now) c.args.variables.now (scope_env c.args.scope.now) c.args.relation.now c.args.inputs c.args.outs.now) c.from_residual-in_err-answers.result
    c.from_residual-in_err-answers.ensures.1
    (λ y is. asked_stop c.args.search.now c.requires.search (g.F.Finder.answers c.args.finder.now) c.args.variables.now (scope_env c.args.scope.now) c.args.relation.now c.args.inputs c.args.outs.now c.in_err-answers.field-0.0 c.in_err-answers.ensures y is)

pub met_by_all-requires-clause-patterns : goal.met_by_all-requires-clause-patterns
met_by_all-requires-clause-patterns g c =
    let are = subst (AreHoles c.args.search.now.setting.index.now c.args.search.now.setting.depth (scope_env c.args.scope.now) Computed c.args.outs.now) (sym c.as_slice-holes.ensures) c.in_ok-holes.ensures.found in
    patterns_all c.args.search.now.setting.index.now c.requires.can.0 c.args.variables.now c.requires.can.1 c.args.relation.now c.requires.can.2 c.args.outs.now c.requires.can.4 c.as_slice.result.now
    (c.as_slice.ensures ∙ c.in_ok-patterns.ensures c.args.search.now.setting.index.now c.args.search.now.setting.depth (scope_env c.args.scope.now) Computed are)

pub met_by_all-requires-clause-formed : goal.met_by_all-requires-clause-formed
met_by_all-requires-clause-formed g c =
    let are = subst (AreHoles c.args.search.now.setting.index.now c.args.search.now.setting.depth (scope_env c.args.scope.now) Computed c.args.outs.now) (sym c.as_slice-holes.ensures) c.in_ok-holes.ensures.found in
    patterns_formed c.args.search.now.setting.index.now c.requires.can.0 c.args.variables.now c.requires.can.1 c.args.relation.now c.requires.can.2 c.args.outs.now c.requires.can.4 c.as_slice.result.now
    (c.as_slice.ensures ∙ c.in_ok-patterns.ensures c.args.search.now.setting.index.now c.args.search.now.setting.depth (scope_env c.args.scope.now) Computed are)

pub met_by_all-requires-clause-bound : goal.met_by_all-requires-clause-bound
met_by_all-requires-clause-bound g c =
    let are = subst (AreHoles c.args.search.now.setting.index.now c.args.search.now.setting.depth (scope_env c.args.scope.now) Computed c.args.outs.now) (sym c.as_slice-holes.ensures) c.in_ok-holes.ensures.found in
    patterns_bound c.args.search.now.setting.index.now c.requires.can.0 c.args.variables.now c.requires.can.1 c.args.relation.now c.requires.can.2 c.args.outs.now c.requires.can.4 c.as_slice.result.now
    (c.as_slice.ensures ∙ c.in_ok-patterns.ensures c.args.search.now.setting.index.now c.args.search.now.setting.depth (scope_env c.args.scope.now) Computed are) (scope_env c.args.scope.now) c.requires.can.3

pub returns-clause-found : goal.returns-clause-found
returns-clause-found g c =
    let are = subst (AreHoles c.args.search.now.setting.index.now c.args.search.now.setting.depth (scope_env c.args.scope.now) Computed c.args.outs.now) (sym c.as_slice-holes.ensures) c.in_ok-holes.ensures.found in
    asked_found c.args.search.now c.requires.search (g.F.Finder.answers c.args.finder.now) c.args.variables.now (scope_env c.args.scope.now) c.args.relation.now c.args.inputs c.args.outs.now c.as_slice-holes.result.now are c.as_slice.result.now
    (c.as_slice.ensures ∙ c.in_ok-patterns.ensures c.args.search.now.setting.index.now c.args.search.now.setting.depth (scope_env c.args.scope.now) Computed are) c.in_ok-answers.answers c.in_ok-answers.ensures c.in_ok-items.items
    (subst (λ z. AllMeetings (syntaxes c.args.search.now.setting.index.now) c.args.variables.now (scope_env c.args.scope.now) c.as_slice-holes.result.now c.as_slice.result.now z c.in_ok-items.items) c.as_slice-2.ensures c.in_ok-items.ensures)

pub returns-clause-binds : goal.returns-clause-binds
returns-clause-binds g c =
    let are = subst (AreHoles c.args.search.now.setting.index.now c.args.search.now.setting.depth (scope_env c.args.scope.now) Computed c.args.outs.now) (sym c.as_slice-holes.ensures) c.in_ok-holes.ensures.found in
    answered_binds c.args.search.now.setting.index.now c.args.variables.now (scope_env c.args.scope.now) c.args.relation.now c.args.outs.now c.as_slice.result.now c.as_slice-holes.result.now c.as_slice-2.result.now c.in_ok-items.items
    (c.as_slice.ensures ∙ c.in_ok-patterns.ensures c.args.search.now.setting.index.now c.args.search.now.setting.depth (scope_env c.args.scope.now) Computed are) c.in_ok-items.ensures
