use Rattle.st_type_table.specs.inner.Flat.{AreFlats}
use Rattle.st_type_table.proofs.flat.flats_of.Given as goal

abbrev pub invariant-loop-rank : goal.invariant-loop-rank
invariant-loop-rank l = AreFlats l.defs l.ranks l.rank l.flats.items
