use Rattle.std.proofs.Common.{◌↔◌, ◌<◌, ℕ}
use Rattle.st_graph.specs.Graph.{Stands}
use Rattle.st_deps.proofs.listing.all_below.Given as goal

abbrev pub invariant-loop-number : goal.invariant-loop-number
invariant-loop-number l = (a : ℕ) → Stands l.all.items a ↔ (a < l.number)
