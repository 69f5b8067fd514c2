use Rattle.std.proofs.Common.{◌≡◌, ◌≤◌, ◌-◌, length, replicate, None}
use Rattle.st_any_table.proofs.flats.none_known.Given as goal

abbrev pub invariant-rows : goal.invariant-rows
invariant-rows l = (l.flats.items ≡ replicate (length l.flats.items) None) × (length l.flats.items ≤ l.len)

abbrev pub decreases-rows : goal.decreases-rows
decreases-rows l = l.len - length l.flats.items
