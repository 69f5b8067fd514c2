use Rattle.std.proofs.Common.{subst}
use Rattle.st_modes.specs.inner.Breaches.{IsFound}
use Rattle.st_modes.proofs.BreachParts.{answered}
use Rattle.st_modes.proofs.breaches.mode_breach.Goals as goal

pub first_breach-requires-clause-relations : goal.first_breach-requires-clause-relations
first_breach-requires-clause-relations c = c.in_ok-relations.ensures.0

pub returns : goal.returns
returns c =
    answered c.args.il.now c.as_slice.result.now c.in_ok-found.found c.as_slice.ensures
    (subst (λ il. IsFound il 0 c.as_slice.result.now c.in_ok-found.found) c.in_ok-relations.ensures.1 c.in_ok-found.ensures)
