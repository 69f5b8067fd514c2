use Rattle.std.proofs.Common.{subst}
use Rattle.st_modes.specs.inner.Breaches.{IsBreachAnswer}
use Rattle.st_modes.proofs.moding.modes.Goals as goal

pub returns : goal.returns
returns c = (subst (IsBreachAnswer c.args.il.now) c.in_default.is c.in_ok-breach.ensures, c.in_ok-modes.ensures)
