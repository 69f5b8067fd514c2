use Rattle.std.proofs.Common.{take}
use Rattle.st_modes.specs.inner.Citations.{HasRead}
use Rattle.st_modes.proofs.citations.citations_of.Given as goal

abbrev pub invariant-loop-definition : goal.invariant-loop-definition
invariant-loop-definition l = HasRead (take l.definition-index l.defs) l.citations
