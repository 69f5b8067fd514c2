use Rattle.std.proofs.Common.{◌≡◌, ◌+◌, ◌*◌, length, true}
use Rattle.st_type_table.specs.inner.Graph.{mark, unmarked}
use Rattle.st_type_table.specs.inner.Ranking.{IsRanking, MarksMore}
use Rattle.st_type_table.proofs.ranking.walk_from.Given as goal

abbrev pub invariant-walk : goal.invariant-walk
invariant-walk l = IsRanking l.graph l.ranks l.count l.seen l.passed l.path.items × ((mark l.seen l.start ≡ true) × MarksMore l.fn.seen l.seen)

abbrev pub decreases-walk : goal.decreases-walk
decreases-walk l = 2 * unmarked l.seen + length l.path.items
