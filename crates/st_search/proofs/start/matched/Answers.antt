use Rattle.std.proofs.Common.{sym, ◌∙◌, ap, subst}
use Rattle.st_semantics.specs.RuleDepth.{no_variables}
use Rattle.st_search.specs.declared.holes.Evaluated.TheVariants.{Closed}
use Rattle.st_search.specs.inner.Holes.{AreHoles}
use Rattle.st_search.specs.inner.Rules.{started}
use Rattle.st_search.proofs.StartRuns.{AreExtended, ins_formed, closed_quiet, patterns_all, patterns_formed, patterns_bound, misfit_finds, fit_finds}
use Rattle.st_search.proofs.start.matched.Goals as goal

pub holes_of-requires-clause-formed : goal.holes_of-requires-clause-formed
holes_of-requires-clause-formed c = ins_formed c.args.search.now c.requires.search c.args.rule.now c.requires.rule c.args.ins.now c.requires.inputs

pub returns-in-None-clause-found : goal.returns-in-None-clause-found
returns-in-None-clause-found c =
    let are = subst (AreHoles c.args.search.now.setting.index.now c.args.search.now.setting.depth no_variables Closed c.args.ins.now) (sym c.as_slice-holes.ensures) c.in_ok-holes.ensures.found in
    misfit_finds c.args.search.now c.requires.search c.args.rule.now c.requires.rule c.args.ins.now c.requires.inputs c.requires.ordered c.args.inputs.now c.as_slice-holes.result.now are c.in_ok-values.values c.in_ok-values.ensures c.in-None.is _ c.new.ensures

pub returns-in-None-clause-quiet : goal.returns-in-None-clause-quiet
returns-in-None-clause-quiet c = closed_quiet c.args.search.now c.requires.search c.args.rule.now c.requires.rule c.args.ins.now c.requires.inputs c.in_ok-holes.holes c.in_ok-holes.ensures.found

pub extended-requires-clause-patterns : goal.extended-requires-clause-patterns
extended-requires-clause-patterns c =
    let are = subst (AreHoles c.args.search.now.setting.index.now c.args.search.now.setting.depth no_variables Closed c.args.ins.now) (sym c.as_slice-holes.ensures) c.in_ok-holes.ensures.found in
    patterns_all c.args.search.now c.requires.search c.args.rule.now c.requires.rule c.args.ins.now c.requires.inputs c.requires.ordered c.as_slice-patterns.result.now
    (c.as_slice-patterns.ensures ∙ c.in_ok-patterns-in-Some.ensures c.args.search.now.setting.index.now c.args.search.now.setting.depth no_variables Closed are)

pub extended-requires-clause-formed : goal.extended-requires-clause-formed
extended-requires-clause-formed c =
    let are = subst (AreHoles c.args.search.now.setting.index.now c.args.search.now.setting.depth no_variables Closed c.args.ins.now) (sym c.as_slice-holes.ensures) c.in_ok-holes.ensures.found in
    patterns_formed c.args.search.now c.requires.search c.args.rule.now c.requires.rule c.args.ins.now c.requires.inputs c.requires.ordered c.as_slice-patterns.result.now
    (c.as_slice-patterns.ensures ∙ c.in_ok-patterns-in-Some.ensures c.args.search.now.setting.index.now c.args.search.now.setting.depth no_variables Closed are)

pub extended-requires-clause-bound : goal.extended-requires-clause-bound
extended-requires-clause-bound c =
    let are = subst (AreHoles c.args.search.now.setting.index.now c.args.search.now.setting.depth no_variables Closed c.args.ins.now) (sym c.as_slice-holes.ensures) c.in_ok-holes.ensures.found in
    patterns_bound c.args.search.now c.requires.search c.args.rule.now c.requires.rule c.args.ins.now c.requires.inputs c.requires.ordered c.as_slice-patterns.result.now
    (c.as_slice-patterns.ensures ∙ c.in_ok-patterns-in-Some.ensures c.args.search.now.setting.index.now c.args.search.now.setting.depth no_variables Closed are)

pub returns-clause-found : goal.returns-clause-found
returns-clause-found c =
    let are = subst (AreHoles c.args.search.now.setting.index.now c.args.search.now.setting.depth no_variables Closed c.args.ins.now) (sym c.as_slice-holes.ensures) c.in_ok-holes.ensures.found in
    let extended = subst (λ z. AreExtended c.args.search.now z c.as_slice-patterns.result.now c.in-Some.values c.in_ok-envs-in-Some.envs) c.as_slice-variables.ensures
    (subst (λ z. AreExtended c.args.search.now c.as_slice-variables.result.now c.as_slice-patterns.result.now z c.in_ok-envs-in-Some.envs) c.as_slice.ensures c.in_ok-envs-in-Some.ensures) in
    fit_finds c.args.search.now c.requires.search c.args.rule.now c.requires.rule c.args.ins.now c.requires.inputs c.requires.ordered c.args.inputs.now c.as_slice-holes.result.now are c.in_ok-values.values c.in_ok-values.ensures c.in-Some.values c.in-Some.is
    c.as_slice-patterns.result.now (c.as_slice-patterns.ensures ∙ c.in_ok-patterns-in-Some.ensures c.args.search.now.setting.index.now c.args.search.now.setting.depth no_variables Closed are) c.in_ok-envs-in-Some.envs extended _
    (c.in_ok-starts-in-Some.ensures ∙ ap started c.as_slice-in-Some.ensures)

pub returns-clause-quiet : goal.returns-clause-quiet
returns-clause-quiet c = closed_quiet c.args.search.now c.requires.search c.args.rule.now c.requires.rule c.args.ins.now c.requires.inputs c.in_ok-holes.holes c.in_ok-holes.ensures.found
