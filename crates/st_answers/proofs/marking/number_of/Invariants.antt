use Rattle.st_answers.proofs.MarkLemmas.{NoneNamedBefore}
use Rattle.st_answers.proofs.marking.number_of.Given as goal

abbrev pub invariant-loop-i : goal.invariant-loop-i
invariant-loop-i l = NoneNamedBefore l.relations l.name l.i
