use Rattle.std.proofs.Common.{◌∙◌, ap}
use Rattle.st_match.specs.inner.Scope.{entries_of}
use Rattle.st_search.specs.inner.Rules.{lengthened}
use Rattle.st_search.proofs.NextEnds.{StopsFrom}
use Rattle.st_search.proofs.EndRuns.{only_scope, step_found, step_binds, step_stopped}
use Rattle.st_search.proofs.Sequences.{ends_again}
use Rattle.st_search.proofs.advance.run_from.Goals as goal

pub run_step-requires-clause-can : goal.run_step-requires-clause-can
run_step-requires-clause-can g c = (
  c.requires.can.0,
  c.requires.can.1,
  only_scope c.args.search.now.setting.index.now c.args.search.now.setting.depth (g.F.Finder.answers c.args.finder.now) c.args.variables.now c.args.step.now c.args.end.now c.as_slice.result.now (ap entries_of c.as_slice.ensures ∙ c.in_ok-scope.ensures)
      c.requires.can.0 c.requires.can.2,
  c.requires.can.3,
)

pub returns-clause-found : goal.returns-clause-found
returns-clause-found g c =
    step_found c.args.search.now.setting.index.now c.args.search.now.setting.depth (g.F.Finder.answers c.args.finder.now) c.args.variables.now c.args.step.now c.args.end.now c.as_slice.result.now (ap entries_of c.as_slice.ensures ∙ c.in_ok-scope.ensures)
    c.in_ok-found.found c.in_ok-found.ensures.found _ (c.in_ok-items.ensures ∙ ap (lengthened c.args.end.now) c.as_slice-2.ensures)

pub returns-in_err-found-clause-stops : goal.returns-in_err-found-clause-stops
returns-in_err-found-clause-stops g c =
    ends_again (StopsFrom c.args.search.now.setting.index.now c.args.search.now.setting.depth (g.F.Finder.answers c.args.finder.now) c.args.variables.now c.args.step.now c.args.end.now) c.from_residual-in_err-found.result c.in_err-found.field-0.0 c.from_residual-in_err-found.ensures.1
    (step_stopped c.args.search.now.setting.index.now c.args.search.now.setting.depth (g.F.Finder.answers c.args.finder.now) c.args.variables.now c.args.step.now c.args.end.now c.as_slice.result.now (ap entries_of c.as_slice.ensures ∙ c.in_ok-scope.ensures)
    c.in_err-found.field-0.0 c.in_err-found.ensures.stops)

pub returns-clause-binds : goal.returns-clause-binds
returns-clause-binds g c =
    step_binds c.args.search.now.setting.index.now c.args.search.now.setting.depth (g.F.Finder.answers c.args.finder.now) c.args.variables.now c.args.step.now c.args.end.now c.as_slice.result.now (ap entries_of c.as_slice.ensures ∙ c.in_ok-scope.ensures)
    c.in_ok-found.found.items c.in_ok-found.ensures.binds _ (c.in_ok-items.ensures ∙ ap (lengthened c.args.end.now) c.as_slice-2.ensures)
