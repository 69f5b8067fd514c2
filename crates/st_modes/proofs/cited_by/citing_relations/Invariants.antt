use Rattle.std.proofs.Common.{take}
use Rattle.st_modes.specs.inner.CitedBy.{AreCiting}
use Rattle.st_modes.proofs.cited_by.citing_relations.Given as goal

abbrev pub invariant-loop-definition : goal.invariant-loop-definition
invariant-loop-definition l = AreCiting (take l.definition-index l.defs) l.found.entries
