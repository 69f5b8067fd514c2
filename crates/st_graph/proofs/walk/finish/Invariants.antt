use Rattle.st_graph.specs.inner.Walks.{IsWalk, KeepsBegun, cost}
use Rattle.st_graph.proofs.walk.finish.Given as goal

abbrev pub invariant-walk : goal.invariant-walk
invariant-walk l = IsWalk l.graph l.walk × KeepsBegun l.initial.walk l.walk

abbrev pub decreases-walk : goal.decreases-walk
decreases-walk l = cost l.graph l.walk
