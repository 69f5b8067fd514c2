use Rattle.st_type_table.specs.inner.Ranking.{RankedTo}
use Rattle.st_type_table.proofs.ranking.first_unranked.Given as goal

abbrev pub invariant-loop-at : goal.invariant-loop-at
invariant-loop-at l = RankedTo l.positions l.ranks l.at
