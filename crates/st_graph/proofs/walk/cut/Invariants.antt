use Rattle.std.proofs.Common.{length}
use Rattle.st_graph.specs.inner.Walk.{IsCut}
use Rattle.st_graph.proofs.walk.cut.Given as goal

abbrev pub invariant-cutting : goal.invariant-cutting
invariant-cutting l = IsCut l.at l.initial.bounds.items l.bounds.items

abbrev pub decreases-cutting : goal.decreases-cutting
decreases-cutting l = length l.bounds.items
