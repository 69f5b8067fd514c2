use Rattle.std.proofs.Common.{◌≡◌, ◌++◌, take}
use Rattle.st_type_table.specs.inner.CaseKeys.{IsKeyed}
use Rattle.st_type_table.proofs.flat.add_included.Given as goal

abbrev pub invariant-loop-at : goal.invariant-loop-at
invariant-loop-at l = record { so_far : l.cases.items ≡ l.fn.cases.items ++ take l.at l.flat.cases.items; keyed : IsKeyed l.cases }
