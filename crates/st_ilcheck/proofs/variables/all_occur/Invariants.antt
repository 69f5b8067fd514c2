use Rattle.std.proofs.Common.{take}
use Rattle.std.specs.Prelude.{All, Contains}
use Rattle.st_il.specs.declared.definition.Listed.{Listed}
use Rattle.st_ilcheck.proofs.variables.all_occur.Given as goal

abbrev pub invariant-loop-i : goal.invariant-loop-i
invariant-loop-i l = All (λ (v : Listed). Contains l.occurrences (v.name, v.dim)) (take l.i l.listed)
