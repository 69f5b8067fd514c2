use Rattle.st_search.specs.Proper.{IsProperDef}
use Rattle.st_search.proofs.ProperLists.{EachFrom}
use Rattle.st_search.proofs.literals.proper.Given as goal

abbrev pub invariant-loop-def : goal.invariant-loop-def
invariant-loop-def l = EachFrom IsProperDef l.il.defs l.def-index
