use Rattle.std.proofs.Common.{◌≡◌, ◌↔◌, ap, ◌∙◌, subst, rules}
use Rattle.std.specs.Prelude.{IsTrue}
use Rattle.st_any_table.proofs.pairs.is_pair.Goals as goal

pub returns-then-not-are_one : goal.returns-then-not-are_one
returns-then-not-are_one c = (λ f. search rules, λ e. c.if-not-are_one.ensures.1 (ap (λ p. p.0) (c.pair.view_is ∙ e)))

pub returns : goal.returns
returns c = subst (λ p. IsTrue c.are_one-2.result ↔ (p ≡ (c.args.left.now, c.args.right.now))) c.pair.view_is (
  λ y i. (c.if-not-are_one.ensures.0 (search rules) i, c.are_one-2.ensures.0 y i),
  λ e. c.are_one-2.ensures.1 (ap (λ p. p.1) e),
)
