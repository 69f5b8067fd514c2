use Rattle.std.proofs.Common.{◌≡◌, ◌<◌, ℕ, [], true}
use Rattle.st_type_table.specs.inner.Graph.{mark}
use Rattle.st_type_table.specs.inner.Ranking.{IsRanking}
use Rattle.st_type_table.proofs.ranking.walk.Given as goal

abbrev pub invariant-loop-start : goal.invariant-loop-start
invariant-loop-start l = IsRanking l.graph l.ranks l.count l.seen l.passed [] × ((i : ℕ) → i < l.start → mark l.seen i ≡ true)
