use Rattle.std.proofs.Common.{◌≡◌, take}
use Rattle.std.specs.Prelude.{All}
use Rattle.st_ilcheck.specs.Variables.{Occurrence}
use Rattle.st_ilcheck.proofs.variables.occurs.Given as goal

abbrev pub invariant-loop-i : goal.invariant-loop-i
invariant-loop-i l = All (λ (o : Occurrence). o ≡ (l.variable.name, l.variable.dim) → ⊥) (take l.i l.occurrences)
