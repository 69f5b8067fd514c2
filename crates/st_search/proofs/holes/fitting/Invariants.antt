use Rattle.st_search.proofs.Fitting.{FitsSoFar}
use Rattle.st_search.proofs.holes.fitting.Given as goal

abbrev pub invariant-loop-i : goal.invariant-loop-i
invariant-loop-i l = FitsSoFar l.holes l.values l.i l.found
