use Rattle.std.proofs.Common.{◌-◌, length, drop}
use Rattle.st_order.specs.inner.Index.{names_in}
use Rattle.st_modes.specs.inner.Breaches.{AreDecided, IsFound}
use Rattle.st_modes.proofs.breaches.first_breach.Given as goal

abbrev pub invariant-loop-i : goal.invariant-loop-i
invariant-loop-i l = record {
  decided : AreDecided (names_in l.decided.keys) (drop (length l.defs - l.i) l.defs);
  found : IsFound l.relations.directions.il.now (length l.defs - l.i) (drop (length l.defs - l.i) l.defs) l.found;
}
