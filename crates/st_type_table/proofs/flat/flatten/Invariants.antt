use Rattle.std.proofs.Common.{take}
use Rattle.st_type_table.specs.inner.CaseKeys.{IsKeyed}
use Rattle.st_type_table.specs.Cases.{Flatten}
use Rattle.st_type_table.proofs.flat.flatten.Given as goal

abbrev pub invariant-loop-reach : goal.invariant-loop-reach
invariant-loop-reach l = Flatten l.defs (take l.reach l.alternatives) l.cases.items × IsKeyed l.cases
