use Rattle.st_type_table.proofs.NumberingLemmas.{AreListed}
use Rattle.st_type_table.proofs.numbering.by_rank.Given as goal

abbrev pub invariant-loop-at : goal.invariant-loop-at
invariant-loop-at l = AreListed l.keys l.at l.names.items
