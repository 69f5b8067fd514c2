use Rattle.std.proofs.Common.{◌≡◌, ℕ, ◌++◌, map, take}
use Rattle.st_graph.proofs.walk.wait.Given as goal

abbrev pub invariant-loop-to : goal.invariant-loop-to
invariant-loop-to l = l.waiting.items ≡ l.initial.waiting.items ++ map (λ (to : ℕ). (l.at, to)) (take l.to-index l.row)
