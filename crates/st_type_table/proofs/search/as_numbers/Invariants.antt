use Rattle.std.proofs.Common.{◌≡◌, map, take}
use Rattle.st_type_table.specs.inner.Search.{as_number}
use Rattle.st_type_table.proofs.search.as_numbers.Given as goal

abbrev pub invariant-loop-is_marked : goal.invariant-loop-is_marked
invariant-loop-is_marked l = l.numbers ≡ map as_number (take l.is_marked-index l.marks)
