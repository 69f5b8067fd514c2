use Rattle.std.proofs.Common.{◌-◌, length, true, false}
use Rattle.std.specs.Prelude.{◌↔◌}
use Rattle.st_type_table.specs.Same.{SameAll}
use Rattle.st_semantics.specs.Directions.{inputs_by, outputs_by}
use Rattle.st_order.specs.inner.HolesOf.{from_hole}
use Rattle.st_order.specs.inner.Inputs.{mask_told}
use Rattle.st_order.proofs.step_types.have_same_types.Given as goal

abbrev pub invariant-holes : goal.invariant-holes
invariant-holes l =
    SameAll l.types (from_hole true (mask_told l.inputs) l.holes l.from) (from_hole false (mask_told l.inputs) l.holes l.to)
    ↔ SameAll l.types (inputs_by (mask_told l.inputs) l.holes) (outputs_by (mask_told l.inputs) l.holes)

abbrev pub decreases-holes : goal.decreases-holes
decreases-holes l = length l.holes - l.from
