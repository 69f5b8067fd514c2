use Rattle.std.proofs.Common.{◌≡◌, drop}
use Rattle.st_type_table.specs.Cases.{operands_of}
use Rattle.st_any_table.specs.inner.Flats.{cases_at}
use Rattle.st_any_table.proofs.flats.first_operands.Given as goal

abbrev pub invariant-loop-number : goal.invariant-loop-number
invariant-loop-number l = operands_of (cases_at l.cases l.numbers) l.tag ≡ operands_of (cases_at l.cases (drop l.number-index l.numbers)) l.tag
