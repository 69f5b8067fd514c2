use Rattle.st_match.proofs.Tests.{refused}
use Rattle.st_match.proofs.matching.suits.Goals as goal

pub returns-then-not-have_asked : goal.returns-then-not-have_asked
returns-then-not-have_asked c = refused _ c.have_asked.result c.if-not-have_asked.true (λ s. c.have_asked.ensures.1 s.typed)

pub returns : goal.returns
returns c = (
  λ y. record { typed = c.have_asked.ensures.0 c.if-not-have_asked.false; fit = c.in_ok-yes.ensures.0 y },
  λ s. c.in_ok-yes.ensures.1 s.fit,
)
