use Rattle.std.proofs.Common.{sym, true≢false, rules}
use Rattle.st_types.specs.inner.Levels.{Said}
use Rattle.st_type_table.specs.Sub.{Sub}
use Rattle.st_types.proofs.SubLemmas.{sub-said, said-falls}
use Rattle.st_types.proofs.sub.is_below.Goals as goal

pub returns-then-same-clause-exact : goal.returns-then-same-clause-exact
returns-then-same-clause-exact c = (λ u. c.levels.invariant.0 (Sub.same (c.if-same.ensures.exact.0 (search rules))), λ s. search rules)

pub returns-then-is_contained-clause-exact : goal.returns-then-is_contained-clause-exact
returns-then-is_contained-clause-exact c = (λ u. c.levels.invariant.0 (Sub.variant (c.if-is_contained.ensures.0 (search rules))), λ s. search rules)

pub returns-in-Below-clause-exact : goal.returns-in-Below-clause-exact
returns-in-Below-clause-exact c =
    let h = sub-said c.args.table.now c.levels.low.now c.levels.high.now c.meaning.result.now c.meaning-in-levels.result.now Said.under c.if-same.ensures.exact.1 c.if-is_contained.ensures.1
    c.meaning.ensures.means c.meaning-in-levels.ensures.means c.in-Below.ensures in
    (λ u. c.levels.invariant.0 (h.1 tt), λ s. search rules)

pub returns-in-Apart-clause-exact : goal.returns-in-Apart-clause-exact
returns-in-Apart-clause-exact c =
    let h = sub-said c.args.table.now c.levels.low.now c.levels.high.now c.meaning.result.now c.meaning-in-levels.result.now Said.apart c.if-same.ensures.exact.1 c.if-is_contained.ensures.1
    c.meaning.ensures.means c.meaning-in-levels.ensures.means c.in-Apart.ensures in
    (λ f. absurd (true≢false (sym f)), λ s. absurd (h.0 (c.levels.invariant.1 s)))

pub levels-smaller : goal.levels-smaller
levels-smaller c = said-falls c.args.table.now c.meaning.ensures.sound c.levels.low.now c.meaning.result.now c.meaning-in-levels.result.now c.in-Elements.one.now c.in-Elements.other.now
    c.meaning.ensures.means c.in-Elements.ensures

pub levels-preserved : goal.levels-preserved
levels-preserved c =
    let h = sub-said c.args.table.now c.levels.low.now c.levels.high.now c.meaning.result.now c.meaning-in-levels.result.now (Said.elements c.in-Elements.one.now c.in-Elements.other.now) c.if-same.ensures.exact.1 c.if-is_contained.ensures.1
    c.meaning.ensures.means c.meaning-in-levels.ensures.means c.in-Elements.ensures in
    (λ t. c.levels.invariant.0 (h.1 t), λ t. h.0 (c.levels.invariant.1 t))
