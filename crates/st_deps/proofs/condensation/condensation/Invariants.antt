use Rattle.st_deps.specs.inner.Condensation.{CondensesTo}
use Rattle.st_deps.proofs.condensation.condensation.Given as goal

abbrev pub invariant-loop-node : goal.invariant-loop-node
invariant-loop-node l = CondensesTo l.graph l.ranks l.count l.node l.rows.items
