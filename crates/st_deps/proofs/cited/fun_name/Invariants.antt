use Rattle.std.proofs.Common.{◌≡◌, ◌∷◌, take}
use Rattle.st_deps.proofs.cited.fun_name.Given as goal

abbrev pub invariant-loop-byte : goal.invariant-loop-byte
invariant-loop-byte l = l.written ≡ 36 ∷ take l.byte-index l.name
