use Rattle.std.proofs.Common.{subst, IfErr}
use Rattle.st_search.specs.declared.found.Found.{Found}
use Rattle.st_search.specs.declared.found.Partial.{Partial}
use Rattle.st_search.specs.inner.Contracts.{IsShort}
use Rattle.st_search.proofs.NextEnds.{FindsFromAll, BindsFromAll, StopsFromAll}
use Rattle.st_search.proofs.RunSteps.{EndsSo, run_start, next_can_so, run_more_so, run_ends_so, run_whole_so}
use Rattle.st_search.proofs.Sequences.{ends_again, ok_again}
use Rattle.st_search.proofs.rule.run_steps.Goals as goal

pub loop-i-init : goal.loop-i-init
loop-i-init g c = λ order is_order. run_start c.args.search.now.setting.index.now c.args.search.now.setting.depth (g.F.Finder.answers c.args.finder.now) c.args.rule.now order c.args.starts c.requires.starts

pub run_from_all-found-requires-clause-can : goal.run_from_all-found-requires-clause-can
run_from_all-found-requires-clause-can g c = next_can_so c.args.search.now.setting.index.now c.args.search.now.setting.depth (g.F.Finder.answers c.args.finder.now) c.args.rule.now c.args.starts c.requires.rule c.args.steps.now c.requires.steps c.loop-i.i c.loop-i.longest c.loop-i.ends c.loop-i.invariant c.index-steps-i.result c.loop-i-test.true c.index-steps-i.is c.as_slice-variables.result.now c.as_slice.result.now c.as_slice-variables.ensures c.as_slice.ensures

pub returns-in_err-found-clause-ends : goal.returns-in_err-found-clause-ends
returns-in_err-found-clause-ends g c =
    let stops = subst (λ z. IfErr c.run_from_all-found.result (StopsFromAll c.args.search.now.setting.index.now c.args.search.now.setting.depth (g.F.Finder.answers c.args.finder.now) z c.index-steps-i.result c.loop-i.ends)) c.as_slice-variables.ensures
    (subst (λ z. IfErr c.run_from_all-found.result (StopsFromAll c.args.search.now.setting.index.now c.args.search.now.setting.depth (g.F.Finder.answers c.args.finder.now) c.as_slice-variables.result.now c.index-steps-i.result z)) c.as_slice.ensures c.run_from_all-found.ensures.stops) in
    ends_again (EndsSo c.args.search.now.setting.index.now c.args.search.now.setting.depth (g.F.Finder.answers c.args.finder.now) c.args.rule.now c.args.starts) c.from_residual.result c.in_err-found.field-0.0 c.from_residual.ensures.1
    (run_ends_so c.args.search.now.setting.index.now c.args.search.now.setting.depth (g.F.Finder.answers c.args.finder.now) c.args.rule.now c.args.starts c.requires.rule c.args.steps.now c.requires.steps c.loop-i.i c.loop-i.longest c.loop-i.ends c.loop-i.invariant c.index-steps-i.result c.loop-i-test.true c.index-steps-i.is c.run_from_all-found.result stops c.in_err-found.field-0.0 c.in_err-found.ensures.stopped)

pub loop-i-preserved : goal.loop-i-preserved
loop-i-preserved g c =
    let found = c.in_ok-found.found in
    let short = ok_again (λ (f : Found Partial). IsShort c.args.search.now.setting.index.now c.args.search.now.setting.depth (g.F.Finder.answers c.args.finder.now) f.longest) c.run_from_all-found.result found c.in_ok-found.ensures.found c.run_from_all-found.ensures.short in
    let finds = ok_again (λ (f : Found Partial). FindsFromAll c.args.search.now.setting.index.now c.args.search.now.setting.depth (g.F.Finder.answers c.args.finder.now) c.as_slice-variables.result.now c.index-steps-i.result c.as_slice.result.now f.longest f.items) c.run_from_all-found.result found c.in_ok-found.ensures.found c.run_from_all-found.ensures.found in
    let binds = ok_again (λ (f : Found Partial). BindsFromAll c.args.search.now.setting.index.now c.args.search.now.setting.depth (g.F.Finder.answers c.args.finder.now) c.as_slice-variables.result.now c.index-steps-i.result c.as_slice.result.now f.items) c.run_from_all-found.result found c.in_ok-found.ensures.found c.run_from_all-found.ensures.binds in
    run_more_so c.args.search.now.setting.index.now c.args.search.now.setting.depth (g.F.Finder.answers c.args.finder.now) c.args.rule.now c.args.starts c.requires.rule c.args.steps.now c.requires.steps c.loop-i.i c.loop-i.longest c.loop-i.ends c.loop-i.invariant c.index-steps-i.result c.loop-i-test.true c.index-steps-i.is found.longest c.greater-longest.result found.items short
    (subst (λ z. FindsFromAll c.args.search.now.setting.index.now c.args.search.now.setting.depth (g.F.Finder.answers c.args.finder.now) z c.index-steps-i.result c.loop-i.ends found.longest found.items) c.as_slice-variables.ensures (subst (λ z. FindsFromAll c.args.search.now.setting.index.now c.args.search.now.setting.depth (g.F.Finder.answers c.args.finder.now) c.as_slice-variables.result.now c.index-steps-i.result z found.longest found.items) c.as_slice.ensures finds))
    (subst (λ z. BindsFromAll c.args.search.now.setting.index.now c.args.search.now.setting.depth (g.F.Finder.answers c.args.finder.now) z c.index-steps-i.result c.loop-i.ends found.items) c.as_slice-variables.ensures (subst (λ z. BindsFromAll c.args.search.now.setting.index.now c.args.search.now.setting.depth (g.F.Finder.answers c.args.finder.now) c.as_slice-variables.result.now c.index-steps-i.result z found.items) c.as_slice.ensures binds))
    c.greater-longest.ensures.first c.greater-longest.ensures.second c.greater-longest.ensures.one

pub returns-clause-found : goal.returns-clause-found
returns-clause-found g c = run_whole_so c.args.search.now.setting.index.now c.args.search.now.setting.depth (g.F.Finder.answers c.args.finder.now) c.args.rule.now c.args.starts c.requires.rule c.args.steps.now c.requires.steps c.loop-i.i c.loop-i.longest c.loop-i.ends c.loop-i-test.false c.loop-i.invariant

pub returns-clause-short : goal.returns-clause-short
returns-clause-short g c = (c.loop-i.invariant c.requires.steps.0 c.requires.steps.1).short
