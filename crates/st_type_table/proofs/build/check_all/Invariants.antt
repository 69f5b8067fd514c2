use Rattle.st_type_table.specs.Breach.{SoundTo}
use Rattle.st_type_table.proofs.build.check_all.Given as goal

abbrev pub invariant-loop-at : goal.invariant-loop-at
invariant-loop-at l = SoundTo l.defs l.at
