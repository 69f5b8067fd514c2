use Rattle.std.proofs.Common.{◌≡◌, ◌↔◌, drop}
use Rattle.st_any_table.proofs.pairs.+equal.Given as goal

abbrev pub invariant-are_all-loop-i : goal.invariant-are_all-loop-i
invariant-are_all-loop-i l = (drop l.i l.ones ≡ drop l.i l.others) ↔ (l.ones ≡ l.others)
