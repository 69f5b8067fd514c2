use Rattle.std.proofs.Common.{rules, sym, ◌∙◌}
use Rattle.st_ilcheck.proofs.variables.are_listed.Goals as goal

pub returns-then-not-are_once : goal.returns-then-not-are_once
returns-then-not-are_once c = (λ f. search rules, λ k. c.if-not-are_once.ensures ∙ k.once)

pub returns-then-not-all_listed : goal.returns-then-not-all_listed
returns-then-not-all_listed c = (λ f. search rules, λ k. c.if-not-all_listed.ensures.1 k.listed)

pub returns : goal.returns
returns c = (
  λ y. record { once = sym c.if-not-are_once.ensures; listed = c.if-not-all_listed.ensures.0 (search rules); occur = c.all_occur.ensures.0 y },
  λ k. c.all_occur.ensures.1 k.occur,
)
