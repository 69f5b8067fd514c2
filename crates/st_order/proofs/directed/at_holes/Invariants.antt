use Rattle.std.proofs.Common.{◌≡◌, ◌++◌, drop}
use Rattle.st_order.specs.inner.HolesOf.{at_holes}
use Rattle.st_order.specs.inner.Parts.{exps_in}
use Rattle.st_order.proofs.directed.at_holes.Given as goal

abbrev pub invariant-loop-i : goal.invariant-loop-i
invariant-loop-i l = exps_in l.found ++ at_holes l.input (drop l.i l.mask) (drop l.i l.exps) ≡ at_holes l.input l.mask l.exps
