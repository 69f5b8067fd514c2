use Rattle.std.proofs.Common.{◌≡◌, length}
use Rattle.st_type_table.proofs.flat.empty_flats.Given as goal

abbrev pub invariant-loop-i : goal.invariant-loop-i
invariant-loop-i l = length l.flats.items ≡ l.i
