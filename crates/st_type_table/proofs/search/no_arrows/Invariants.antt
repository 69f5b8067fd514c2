use Rattle.std.proofs.Common.{◌≡◌, ◌≤◌, ◌-◌, [], length, replicate}
use Rattle.st_type_table.proofs.search.no_arrows.Given as goal

abbrev pub invariant-rows : goal.invariant-rows
invariant-rows l = (l.back.items ≡ replicate (length l.back.items) []) × (length l.back.items ≤ l.len)

abbrev pub decreases-rows : goal.decreases-rows
decreases-rows l = l.len - length l.back.items
