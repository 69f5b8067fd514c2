use Rattle.std.proofs.Common.{take}
use Rattle.std.specs.Prelude.{All}
use Rattle.st_search.specs.declared.answer.Output.{Output}
use Rattle.st_search.proofs.OrderedLaws.{StandsBefore}
use Rattle.st_search.proofs.ordered.position.Given as goal

abbrev pub invariant-loop-i : goal.invariant-loop-i
invariant-loop-i l = All (λ (o : Output). StandsBefore o l.output) (take l.i l.found)
