use Rattle.std.proofs.Common.{take}
use Rattle.st_type_table.specs.Breach.{on_fields, run}
use Rattle.st_type_table.proofs.CheckLemmas.{Rest}
use Rattle.st_type_table.proofs.check.check_fields.Given as goal

abbrev pub invariant-loop-at : goal.invariant-loop-at
invariant-loop-at l = Rest l.defs (on_fields l.at (take l.at l.fields) (run l.at l.to l.fields)) (on_fields l.from (take l.from l.fields) (run l.from l.to l.fields))
