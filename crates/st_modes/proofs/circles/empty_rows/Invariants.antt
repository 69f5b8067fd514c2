use Rattle.std.proofs.Common.{◌≡◌, ◌≤◌, ◌-◌, [], length, replicate}
use Rattle.st_modes.proofs.circles.empty_rows.Given as goal

abbrev pub invariant-rows : goal.invariant-rows
invariant-rows l = (l.rows.items ≡ replicate (length l.rows.items) []) × (length l.rows.items ≤ l.len)

abbrev pub decreases-rows : goal.decreases-rows
decreases-rows l = l.len - length l.rows.items
