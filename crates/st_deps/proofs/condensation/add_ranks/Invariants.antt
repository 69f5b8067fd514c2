use Rattle.std.proofs.Common.{◌≡◌, ◌++◌, take}
use Rattle.st_deps.specs.inner.Condensation.{other_ranks}
use Rattle.st_deps.proofs.condensation.add_ranks.Given as goal

abbrev pub invariant-loop-node : goal.invariant-loop-node
invariant-loop-node l = l.row ≡ l.initial.row ++ other_ranks l.ranks l.group (take l.node-index l.nodes)
