use Rattle.std.proofs.Common.{◌≡◌, ◌≤◌, ◌-◌, length, replicate, true}
use Rattle.st_order.proofs.directions.all_inputs.Given as goal

abbrev pub invariant-holes : goal.invariant-holes
invariant-holes l = (l.mask ≡ replicate (length l.mask) true) × (length l.mask ≤ l.len)

abbrev pub decreases-holes : goal.decreases-holes
decreases-holes l = l.len - length l.mask
