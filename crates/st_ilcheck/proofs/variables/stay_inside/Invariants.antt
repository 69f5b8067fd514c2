use Rattle.std.proofs.Common.{◌≡◌, false, ℕ, List, take}
use Rattle.std.specs.Prelude.{All}
use Rattle.st_il.specs.Names.{has_name}
use Rattle.st_ilcheck.specs.Variables.{names_of}
use Rattle.st_ilcheck.proofs.variables.stay_inside.Given as goal

abbrev pub invariant-loop-i : goal.invariant-loop-i
invariant-loop-i l = All (λ (i : List ℕ). has_name (names_of l.occurrences) i ≡ false) (take l.i l.indices)
