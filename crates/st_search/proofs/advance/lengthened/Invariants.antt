use Rattle.std.proofs.Common.{◌≡◌, ◌++◌, drop}
use Rattle.st_search.specs.inner.Rules.{lengthened}
use Rattle.st_search.proofs.advance.lengthened.Given as goal

abbrev pub invariant-loop-solution : goal.invariant-loop-solution
invariant-loop-solution l = l.ends ++ lengthened l.end (drop l.solution-index l.solutions) ≡ lengthened l.end l.solutions
