use Rattle.std.proofs.Common.{◌≡◌, map, take}
use Rattle.st_graph.specs.inner.Walk.{number_at}
use Rattle.st_graph.proofs.walk.numbers_at.Given as goal

abbrev pub invariant-loop-state : goal.invariant-loop-state
invariant-loop-state l = l.numbers.items ≡ map number_at (take l.state-index l.states)
