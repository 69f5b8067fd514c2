use Rattle.std.proofs.Common.{◌≡◌, ◌++◌, take}
use Rattle.st_deps.specs.inner.Table.{numbers_of}
use Rattle.st_deps.proofs.table.add_numbers.Given as goal

abbrev pub invariant-loop-name : goal.invariant-loop-name
invariant-loop-name l = l.row ≡ l.initial.row ++ numbers_of l.names.keys (take l.name-index l.cited)
