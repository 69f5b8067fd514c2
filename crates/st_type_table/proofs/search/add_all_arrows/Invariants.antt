use Rattle.st_type_table.specs.inner.Search.{IsReversedTo}
use Rattle.st_type_table.proofs.search.add_all_arrows.Given as goal

abbrev pub invariant-loop-from : goal.invariant-loop-from
invariant-loop-from l = IsReversedTo l.graph l.from l.back
