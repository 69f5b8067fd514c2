use Rattle.std.proofs.Common.{refl, rules, sym, ◌∙◌}
use Rattle.st_any_table.specs.inner.Flats.{cases_at}
use Rattle.st_any_table.proofs.PairsLemmas.{stand-at, stand-end}
use Rattle.st_any_table.proofs.below.all_stand_in.Goals as goal

pub returns-then-not-stands : goal.returns-then-not-stands
returns-then-not-stands c =
    let k = stand-at c.args.survey.now.defs c.args.survey.now.cases c.args.lower.now c.loop-number.number-index (cases_at c.args.survey.now.cases c.args.upper.now) c.loop-number-test.true in
    (λ f. search rules, λ s. sym c.if-not-stands.true ∙ c.in_ok-stands.ensures.1 (k.0 (c.loop-number.invariant.1 s)).0)

pub loop-number-preserved : goal.loop-number-preserved
loop-number-preserved c =
    let k = stand-at c.args.survey.now.defs c.args.survey.now.cases c.args.lower.now c.loop-number.number-index (cases_at c.args.survey.now.cases c.args.upper.now) c.loop-number-test.true in
    (λ s. c.loop-number.invariant.0 (k.1 (c.in_ok-stands.ensures.0 c.if-not-stands.false, s)), λ s. (k.0 (c.loop-number.invariant.1 s)).1)

pub returns : goal.returns
returns c = (λ u. c.loop-number.invariant.0 (stand-end c.args.survey.now.defs c.args.survey.now.cases c.args.lower.now c.loop-number.number-index (cases_at c.args.survey.now.cases c.args.upper.now) c.loop-number-test.false), λ s. refl)
