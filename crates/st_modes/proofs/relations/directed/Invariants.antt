use Rattle.std.proofs.Common.{◌≡◌, ◌-◌, List, ℕ, length, drop}
use Rattle.st_order.specs.Known.{at}
use Rattle.st_modes.specs.inner.Relations.{directed_among}
use Rattle.st_modes.proofs.relations.directed.Given as goal

abbrev pub invariant-loop-i : goal.invariant-loop-i
invariant-loop-i l = (q : List ℕ) → at l.directed.entries q ≡ directed_among (drop (length l.defs - l.i) l.defs) q
