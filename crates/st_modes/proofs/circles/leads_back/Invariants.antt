use Rattle.std.proofs.Common.{◌≡◌, drop}
use Rattle.st_modes.specs.inner.Circles.{leads_back}
use Rattle.st_modes.proofs.circles.leads_back.Given as goal

abbrev pub invariant-loop-to : goal.invariant-loop-to
invariant-loop-to l = leads_back l.numbers l.node l.row ≡ leads_back l.numbers l.node (drop l.to-index l.row)
