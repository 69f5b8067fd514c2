use Rattle.st_search.specs.Proper.{IsProperPrem}
use Rattle.st_search.proofs.ProperLists.{EachFrom}
use Rattle.st_search.proofs.literals.proper_prems.Given as goal

abbrev pub invariant-loop-premise : goal.invariant-loop-premise
invariant-loop-premise l = EachFrom IsProperPrem l.premises l.premise-index
