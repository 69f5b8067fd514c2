use Rattle.std.proofs.Common.{take}
use Rattle.st_ilcheck.specs.inner.Declared.{AreDeclared}
use Rattle.st_ilcheck.proofs.TypedLemmas.{IsTold}
use Rattle.st_ilcheck.proofs.breach.first_breach.Given as goal

abbrev pub invariant-loop-at : goal.invariant-loop-at
invariant-loop-at l = IsTold l.il l.il.defs l.at × AreDeclared (take l.at l.il.defs) l.before
