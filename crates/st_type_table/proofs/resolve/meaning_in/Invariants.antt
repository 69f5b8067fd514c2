use Rattle.st_type_table.proofs.PositionLemmas.{Meaning, name_rank}
use Rattle.st_type_table.proofs.resolve.meaning_in.Given as goal

abbrev pub invariant-loop-written : goal.invariant-loop-written
invariant-loop-written l = Meaning l.defs l.ty l.meaning

abbrev pub decreases-loop-written : goal.decreases-loop-written
decreases-loop-written l = name_rank l.defs l.ranks l.meaning
