use Rattle.std.proofs.Common.{◌≡◌, [], drop}
use Rattle.st_semantics.specs.Orders.{run_on}
use Rattle.st_order.specs.inner.Index.{names_in}
use Rattle.st_modes.proofs.clause_modes.run_as_written.Given as goal

abbrev pub invariant-loop-premise : goal.invariant-loop-premise
invariant-loop-premise l = run_on l.directions.il.now (names_in l.bound.keys) (drop l.premise-index l.premises) [] ≡ run_on l.directions.il.now (names_in l.names) l.premises []
