use Rattle.std.proofs.Common.{◌≡◌, ◌++◌, drop}
use Rattle.st_search.specs.inner.Walks.{stretched}
use Rattle.st_search.proofs.step.stretched.Given as goal

abbrev pub invariant-loop-solution : goal.invariant-loop-solution
invariant-loop-solution l = l.walks ++ stretched l.walk (drop l.solution-index l.solutions) ≡ stretched l.walk l.solutions
