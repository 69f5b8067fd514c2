use Rattle.std.proofs.Common.{take}
use Rattle.st_index.specs.Names.{all_now}
use Rattle.st_index.specs.inner.Listings.{AreNumbers}
use Rattle.st_index.proofs.listing.numbers_of.Given as goal

abbrev pub invariant-loop-k : goal.invariant-loop-k
invariant-loop-k g l = AreNumbers g.T.Named.name (take l.k (all_now l.all)) l.numbers.entries
