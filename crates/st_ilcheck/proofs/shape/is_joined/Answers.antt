use Rattle.std.proofs.Common.{rules}
use Rattle.st_ilcheck.proofs.shape.is_joined.Goals as goal

pub returns-then-not-joins : goal.returns-then-not-joins
returns-then-not-joins c = (λ f. search rules, λ h. c.if-not-joins.ensures.1 h.0)

pub returns : goal.returns
returns c = (λ y. (c.if-not-joins.ensures.0 (search rules), c.in_ok-kept.ensures.0 y), λ h. c.in_ok-kept.ensures.1 h.1)
