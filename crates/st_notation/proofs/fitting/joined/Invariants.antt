use Rattle.std.proofs.Common.{◌≡◌, ◌++◌, take}
use Rattle.st_notation.proofs.fitting.joined.Given as goal

abbrev pub invariant-loop-filling : goal.invariant-loop-filling
invariant-loop-filling l = l.row ≡ l.fn.front ++ take l.filling-index l.fn.back
