use Rattle.std.proofs.Common.{take}
use Rattle.std.specs.List.{All}
use Rattle.st_small.specs.inner.Words.{HasLowerName}
use Rattle.st_small.proofs.word.have_lower_names.Given as goal

abbrev pub invariant-loop-rule : goal.invariant-loop-rule
invariant-loop-rule l = All HasLowerName (take l.rule-index l.rules)
