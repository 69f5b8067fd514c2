use Rattle.std.proofs.Common.{◌≡◌}
use Rattle.st_order.specs.inner.HolesOf.{from_hole}
use Rattle.st_order.specs.inner.Inputs.{mask_told}
use Rattle.st_order.proofs.step_types.next_hole.Given as goal

abbrev pub invariant-loop-hole : goal.invariant-loop-hole
invariant-loop-hole l = from_hole l.input (mask_told l.inputs) l.holes l.from ≡ from_hole l.input (mask_told l.inputs) l.holes l.hole
