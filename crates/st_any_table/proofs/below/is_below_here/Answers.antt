use Rattle.std.proofs.Common.{refl, sym, ◌∙◌, inl, inr, true≢false, rules}
use Rattle.st_any_table.proofs.PairsLemmas.{below-contained}
use Rattle.st_any_table.proofs.below.is_below_here.Goals as goal

pub returns-then-equal : goal.returns-then-equal
returns-then-equal c = (λ y. inl (c.in_ok-equal.ensures.0 c.if-equal.true), λ h. refl)

pub returns-then-mean_numbers : goal.returns-then-mean_numbers
returns-then-mean_numbers c = (λ y. inr (inl (c.if-mean_numbers.ensures.0 (search rules))), λ h. refl)

pub returns : goal.returns
returns c = below-contained c.args.survey.now.defs c.args.left.now c.args.right.now c.in_ok-contained.contained
    (λ s. true≢false (sym (c.in_ok-equal.ensures.1 s) ∙ c.if-equal.false)) (λ p. let f = c.if-mean_numbers.ensures.1 p in cc) c.in_ok-contained.ensures
