use Rattle.std.proofs.Common.{◌≡◌, length}
use Rattle.st_any_table.specs.inner.Pairs.{EqualWaits, IsExplored}
use Rattle.st_any_table.proofs.equal.equal_graph.Given as goal

abbrev pub invariant-loop-at : goal.invariant-loop-at
invariant-loop-at l = IsExplored (EqualWaits l.survey.defs) l.fn.left l.fn.right l.pairs l.graph × (length l.graph ≡ l.at)
