use Rattle.st_graph.specs.inner.Walk.{ClosesTo}
use Rattle.st_graph.proofs.walk.number.Given as goal

abbrev pub invariant-loop-at : goal.invariant-loop-at
invariant-loop-at l = ClosesTo l.path l.start l.at l.component l.initial.states l.states
