use Rattle.std.proofs.Common.{rules, sym, ◌∙◌, true≢false}
use Rattle.st_ilcheck.proofs.shape.is_lower.Goals as goal

pub returns-then-equal : goal.returns-then-equal
returns-then-equal c = (λ f. search rules, λ h. absurd (h.1 (c.in_ok-equal.ensures.0 c.if-equal.true)))

pub returns : goal.returns
returns c = (λ y. (c.in_ok-below.ensures.0 y, λ s. true≢false (sym (c.in_ok-equal.ensures.1 s) ∙ c.if-equal.false)), λ h. c.in_ok-below.ensures.1 h.0)
