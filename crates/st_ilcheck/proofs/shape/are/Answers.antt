use Rattle.std.proofs.Common.{rules, arith, sym, ◌∙◌}
use Rattle.st_il.specs.Definitions.{syntaxes}
use Rattle.st_ilcheck.specs.Rules.{Is}
use Rattle.st_ilcheck.proofs.Each.{AreEach-length, AreEach-at, AreEach-end}
use Rattle.st_ilcheck.proofs.shape.are.Goals as goal

pub returns-then-asked-types : goal.returns-then-asked-types
returns-then-asked-types c =
    (λ f. search rules, λ s. absurd (c.if-asked-types.true (AreEach-length (λ t o. Is (syntaxes c.args.language.now) o t) c.args.asked.now c.args.types.now s)))

pub returns-then-not-kept : goal.returns-then-not-kept
returns-then-not-kept c =
    let k = AreEach-at (λ t o. Is (syntaxes c.args.language.now) o t) c.args.asked.now c.args.types.now c.loop-i.i c.index-asked-i.result c.index-types-i.result c.loop-i-test.true (omega arith) c.index-asked-i.is c.index-types-i.is in
    (λ f. search rules, λ s. sym c.if-not-kept.true ∙ c.in_ok-kept.ensures.1 (k.0 (c.loop-i.invariant.1 s)).0)

pub loop-i-preserved : goal.loop-i-preserved
loop-i-preserved c =
    let k = AreEach-at (λ t o. Is (syntaxes c.args.language.now) o t) c.args.asked.now c.args.types.now c.loop-i.i c.index-asked-i.result c.index-types-i.result c.loop-i-test.true (omega arith) c.index-asked-i.is c.index-types-i.is in
    (λ s. c.loop-i.invariant.0 (k.1 (c.in_ok-kept.ensures.0 c.if-not-kept.false, s)), λ s. (k.0 (c.loop-i.invariant.1 s)).1)

pub returns : goal.returns
returns c =
    (λ u. c.loop-i.invariant.0 (AreEach-end (λ t o. Is (syntaxes c.args.language.now) o t) c.args.asked.now c.args.types.now c.loop-i.i c.loop-i-test.false (omega arith)), λ s. search rules)
