use Rattle.std.proofs.Common.{◌≡◌, ◌++◌, drop}
use Rattle.st_eval.proofs.element.with_bound.Given as goal

abbrev pub invariant-loop-other : goal.invariant-loop-other
invariant-loop-other l = l.inner ++ drop l.other-index l.others ≡ l.fn.bound ++ l.others
