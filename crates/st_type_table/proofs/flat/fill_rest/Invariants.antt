use Rattle.st_type_table.proofs.RankLemmas.{Resting}
use Rattle.st_type_table.proofs.flat.fill_rest.Given as goal

abbrev pub invariant-loop-i : goal.invariant-loop-i
invariant-loop-i l = Resting l.defs l.ranks l.flats.items l.i
