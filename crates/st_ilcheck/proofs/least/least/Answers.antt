use Rattle.std.proofs.Common.{sym, ap, ◌∙◌}
use Rattle.st_ilcheck.specs.inner.Leasts.{least_before}
use Rattle.st_ilcheck.proofs.LeastLemmas.{before-none, before-last}
use Rattle.st_ilcheck.proofs.least.least.Goals as goal

pub rules-init : goal.rules-init
rules-init c = before-none c.args.rules

pub rules-preserved : goal.rules-preserved
rules-preserved c =
    ap (least_before c.pop.new.self) c.lesser-found.ensures
    ∙ (sym (before-last c.pop.new.self c.in-Some.rule c.rules.found) ∙ (ap (λ z. least_before z c.rules.found) (sym c.in-Some.ensures) ∙ c.rules.invariant))
