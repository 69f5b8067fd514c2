use Rattle.std.proofs.Common.{take}
use Rattle.st_modes.specs.inner.Circles.{KnowsAll}
use Rattle.st_modes.proofs.citers.citers_of.Given as goal

abbrev pub invariant-loop-definition : goal.invariant-loop-definition
invariant-loop-definition l = KnowsAll l.citers (take l.definition-index l.defs)
