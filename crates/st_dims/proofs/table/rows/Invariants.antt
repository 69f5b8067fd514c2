use Rattle.std.proofs.Common.{◌≡◌, ◌++◌, length}
use Rattle.st_dims.proofs.table.rows.Given as goal

-- the rows so far and the entries that are left are all entries
abbrev pub invariant-loop-entry : goal.invariant-loop-entry
invariant-loop-entry l = l.table.items ++ l.shortest.entries ≡ l.initial.shortest.entries

abbrev pub decreases-loop-entry : goal.decreases-loop-entry
decreases-loop-entry l = length l.shortest.entries
