use Rattle.std.proofs.Common.{◌≡◌, length}
use Rattle.st_elab_table.specs.Variables.{unprimed}
use Rattle.st_elab_rows.proofs.variable.unprimed.Given as goal

abbrev pub invariant-loop-shorter : goal.invariant-loop-shorter
invariant-loop-shorter l = unprimed l.front ≡ unprimed l.name

abbrev pub decreases-loop-shorter : goal.decreases-loop-shorter
decreases-loop-shorter l = length l.front
