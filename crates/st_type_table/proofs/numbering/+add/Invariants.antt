use Rattle.std.proofs.Common.{◌≤◌, [], drop, length}
use Rattle.st_type_table.specs.inner.Forms.{parts_number}
use Rattle.st_type_table.specs.inner.Numbering.{Numbered}
use Rattle.st_type_table.proofs.Measure.{measure, measure_all}
use Rattle.st_type_table.proofs.numbering.+add.Given as goal

abbrev pub decreases-add_type : goal.decreases-add_type
decreases-add_type l = measure [] l.ty.now

abbrev pub decreases-add_parts : goal.decreases-add_parts
decreases-add_parts l = measure_all [] l.parts.now

abbrev pub invariant-add_parts-loop-at : goal.invariant-add_parts-loop-at
invariant-add_parts-loop-at l =
    Numbered l.numbers.entries l.fn.list.keys l.list.keys (λ forms. parts_number l.numbers.entries forms (drop l.at l.parts)) l.rest × (l.at ≤ length l.parts)

abbrev pub decreases-add_parts-loop-at : goal.decreases-add_parts-loop-at
decreases-add_parts-loop-at l = l.at
