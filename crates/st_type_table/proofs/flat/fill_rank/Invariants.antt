use Rattle.std.proofs.Common.{take}
use Rattle.st_type_table.proofs.RankLemmas.{Filling}
use Rattle.st_type_table.proofs.flat.fill_rank.Given as goal

abbrev pub invariant-loop-position : goal.invariant-loop-position
invariant-loop-position l = Filling l.defs l.ranks l.rank l.flats.items (take l.position-index l.row)
