use Rattle.std.proofs.Common.{◌≡◌, ◌++◌, drop}
use Rattle.st_search.specs.inner.Walks.{multiplied}
use Rattle.st_search.proofs.step.multiplied.Given as goal

abbrev pub invariant-loop-walk : goal.invariant-loop-walk
invariant-loop-walk l = l.more ++ multiplied (drop l.walk-index l.walks) l.solutions ≡ multiplied l.walks l.solutions
