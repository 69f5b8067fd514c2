use Rattle.std.proofs.Common.{take}
use Rattle.st_match.specs.inner.Found.{AreSuited}
use Rattle.st_match.proofs.matching.found_among.Given as goal

abbrev pub invariant-loop-candidate : goal.invariant-loop-candidate
invariant-loop-candidate l = AreSuited l.sought (take l.candidate-index l.candidates) l.found
