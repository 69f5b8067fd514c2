use Rattle.std.proofs.Common.{◌↔◌, drop}
use Rattle.st_any_table.specs.inner.Ranks.{HaveRanks}
use Rattle.st_any_table.proofs.ranks.all_ranked.Given as goal

abbrev pub invariant-loop-position : goal.invariant-loop-position
invariant-loop-position l = HaveRanks l.ranks (drop l.position-index l.positions) ↔ HaveRanks l.ranks l.positions
