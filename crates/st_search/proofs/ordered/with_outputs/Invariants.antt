use Rattle.std.proofs.Common.{◌≡◌, List, ◌++◌, length}
use Rattle.st_search.specs.declared.answer.Output.{Output}
use Rattle.st_search.specs.inner.Ordered.{AreAdded}
use Rattle.st_search.proofs.ordered.with_outputs.Given as goal

abbrev pub invariant-loop-output : goal.invariant-loop-output
invariant-loop-output l = (done : List Output) × (l.initial.others ≡ l.others ++ done) × AreAdded done l.initial.more l.more

abbrev pub decreases-loop-output : goal.decreases-loop-output
decreases-loop-output l = length l.others
