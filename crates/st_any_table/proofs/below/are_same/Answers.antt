use Rattle.std.proofs.Common.{rules, arith, sym, ◌∙◌}
use Rattle.st_type_table.proofs.SameLemmas.{SameAll-length, SameAll-at, SameAll-end}
use Rattle.st_any_table.proofs.below.are_same.Goals as goal

pub returns-then-ones-others : goal.returns-then-ones-others
returns-then-ones-others c = (λ f. search rules, λ s. absurd (c.if-ones-others.true (SameAll-length c.args.survey.now.defs _ _ s)))

pub returns-then-not-equal : goal.returns-then-not-equal
returns-then-not-equal c =
    let k = SameAll-at c.args.survey.now.defs c.args.ones.now c.args.others.now c.loop-i.i c.index-ones-i.result c.index-others-i.result c.loop-i-test.true (omega arith) c.index-ones-i.is c.index-others-i.is in
    (λ f. search rules, λ s. sym c.if-not-equal.true ∙ c.in_ok-equal.ensures.1 (k.0 (c.loop-i.invariant.1 s)).0)

pub loop-i-preserved : goal.loop-i-preserved
loop-i-preserved c =
    let k = SameAll-at c.args.survey.now.defs c.args.ones.now c.args.others.now c.loop-i.i c.index-ones-i.result c.index-others-i.result c.loop-i-test.true (omega arith) c.index-ones-i.is c.index-others-i.is in
    (λ s. c.loop-i.invariant.0 (k.1 (c.in_ok-equal.ensures.0 c.if-not-equal.false, s)), λ s. (k.0 (c.loop-i.invariant.1 s)).1)

pub returns : goal.returns
returns c = (λ u. c.loop-i.invariant.0 (SameAll-end c.args.survey.now.defs c.args.ones.now c.args.others.now c.loop-i.i c.loop-i-test.false (omega arith)), λ s. search rules)
