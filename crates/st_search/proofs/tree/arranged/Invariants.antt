use Rattle.std.proofs.Common.{◌≡◌}
use Rattle.st_search.specs.inner.Trees.{arranged}
use Rattle.st_search.proofs.tree.arranged.Given as goal

abbrev pub invariant-loop-i : goal.invariant-loop-i
invariant-loop-i l = l.children ≡ arranged l.order l.found l.i
