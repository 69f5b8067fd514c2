use Rattle.std.proofs.Common.{◌≡◌, ◌++◌, drop}
use Rattle.st_eval.proofs.known.with_others.Given as goal

abbrev pub invariant-loop-other : goal.invariant-loop-other
invariant-loop-other l = l.more ++ drop l.other-index l.others ≡ l.fn.names ++ l.others
