use Rattle.std.proofs.Common.{◌≡◌, ◌-◌, List, ℕ, length, drop}
use Rattle.st_order.specs.Known.{at}
use Rattle.st_order.specs.inner.Masks.{mask_among}
use Rattle.st_order.proofs.masks.masks.Given as goal

abbrev pub invariant-loop-i : goal.invariant-loop-i
invariant-loop-i l = (q : List ℕ) → at l.masks.entries q ≡ mask_among (drop (length l.defs - l.i) l.defs) q
