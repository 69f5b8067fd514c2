use Rattle.std.proofs.Common.{◌≡◌, drop}
use Rattle.st_search.specs.inner.Trees.{placed}
use Rattle.st_search.proofs.tree.placed.Given as goal

abbrev pub invariant-loop-premise : goal.invariant-loop-premise
invariant-loop-premise l = placed l.number (drop l.premise-index l.order) l.rest ≡ placed l.number l.order l.found
