use Rattle.std.proofs.Common.{rules}
use Rattle.st_search.proofs.NextEnds.{StopsFromAll, from_start, only_at, from_step, from_stopped, from_all}
use Rattle.st_search.proofs.Sequences.{ends_again}
use Rattle.st_search.proofs.advance.run_from_all.Goals as goal

pub loop-end-init : goal.loop-end-init
loop-end-init g c = from_start c.args.search.now.setting.index.now c.args.search.now.setting.depth (g.F.Finder.answers c.args.finder.now) c.args.variables.now c.args.step.now c.args.ends.now _ (search rules)

pub run_from-requires-clause-can : goal.run_from-requires-clause-can
run_from-requires-clause-can g c = (
  c.requires.can.0,
  c.requires.can.1,
  only_at c.args.search.now.setting.index.now c.args.search.now.setting.depth (g.F.Finder.answers c.args.finder.now) c.args.variables.now c.args.step.now c.requires.can.0 c.args.ends.now c.loop-end.end-index c.end-item.result c.loop-end-test.true c.end-item.is
      c.requires.can.2,
  c.requires.can.3,
)

pub loop-end-preserved : goal.loop-end-preserved
loop-end-preserved g c =
    from_step c.args.search.now.setting.index.now c.args.search.now.setting.depth (g.F.Finder.answers c.args.finder.now) c.args.variables.now c.args.step.now c.args.ends.now c.loop-end.end-index c.end-item.result c.loop-end-test.true c.end-item.is
    c.loop-end.longest c.in_ok-found.found.longest c.greater-longest.result c.loop-end.items c.in_ok-found.found.items c.in_ok-items.items c.loop-end.invariant c.in_ok-found.ensures.short c.in_ok-found.ensures.found c.in_ok-found.ensures.binds c.in_ok-items.ensures
    c.greater-longest.ensures.first c.greater-longest.ensures.second c.greater-longest.ensures.one

pub returns-in_err-found-clause-stops : goal.returns-in_err-found-clause-stops
returns-in_err-found-clause-stops g c =
    ends_again (StopsFromAll c.args.search.now.setting.index.now c.args.search.now.setting.depth (g.F.Finder.answers c.args.finder.now) c.args.variables.now c.args.step.now c.args.ends.now) c.from_residual.result c.in_err-found.field-0.0 c.from_residual.ensures.1
    (from_stopped c.args.search.now.setting.index.now c.args.search.now.setting.depth (g.F.Finder.answers c.args.finder.now) c.args.variables.now c.args.step.now c.args.ends.now c.loop-end.end-index c.end-item.result c.loop-end-test.true c.end-item.is
    c.in_err-found.field-0.0 c.in_err-found.ensures.stops)

pub returns-clause-short : goal.returns-clause-short
returns-clause-short g c = c.loop-end.invariant.short

pub returns-clause-found : goal.returns-clause-found
returns-clause-found g c = from_all c.args.search.now.setting.index.now c.args.search.now.setting.depth (g.F.Finder.answers c.args.finder.now) c.args.variables.now c.args.step.now c.args.ends.now _ _ _ c.loop-end-test.false c.loop-end.invariant
