use Rattle.std.proofs.Common.{◌≡◌, ◌≤◌, [], drop, length}
use Rattle.st_type_table.specs.inner.Forms.{parts_number}
use Rattle.st_type_table.proofs.Measure.{measure, measure_all}
use Rattle.st_type_table.proofs.form.+number.Given as goal

abbrev pub decreases-type_number : goal.decreases-type_number
decreases-type_number l = measure [] l.ty.now

abbrev pub decreases-parts_number : goal.decreases-parts_number
decreases-parts_number l = measure_all [] l.parts.now

abbrev pub invariant-parts_number-loop-at : goal.invariant-parts_number-loop-at
invariant-parts_number-loop-at l =
    (parts_number l.forms.numbers.entries l.forms.list.keys (drop l.at l.parts) ≡ l.rest) × (l.at ≤ length l.parts)

abbrev pub decreases-parts_number-loop-at : goal.decreases-parts_number-loop-at
decreases-parts_number-loop-at l = l.at
