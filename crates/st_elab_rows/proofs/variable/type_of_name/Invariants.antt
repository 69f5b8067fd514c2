use Rattle.std.proofs.Common.{◌≡◌, ◌≤◌, length, map}
use Rattle.st_elab_table.specs.Variables.{unprimed, fronts, first_type}
use Rattle.st_elab_rows.specs.inner.Searching.{remaining_before}
use Rattle.st_elab_rows.proofs.variable.type_of_name.Given as goal

abbrev pub invariant-loop-at : goal.invariant-loop-at
invariant-loop-at l = record { within : l.at ≤ length l.bytes; searched : first_type l.decls (map unprimed (fronts l.bytes)) ≡ first_type l.decls (remaining_before l.at l.bytes) }

abbrev pub decreases-loop-at : goal.decreases-loop-at
decreases-loop-at l = l.at
