use Rattle.std.proofs.Common.{take}
use Rattle.st_modes.specs.inner.CitedBy.{AreCalling}
use Rattle.st_modes.proofs.cited_by.calling_functions.Given as goal

abbrev pub invariant-loop-definition : goal.invariant-loop-definition
invariant-loop-definition l = AreCalling (take l.definition-index l.defs) l.found.entries
