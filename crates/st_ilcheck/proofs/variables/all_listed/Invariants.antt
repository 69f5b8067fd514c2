use Rattle.std.proofs.Common.{take}
use Rattle.std.specs.Prelude.{All}
use Rattle.st_ilcheck.specs.Variables.{IsListed}
use Rattle.st_ilcheck.proofs.variables.all_listed.Given as goal

abbrev pub invariant-loop-i : goal.invariant-loop-i
invariant-loop-i l = All (IsListed l.listed) (take l.i l.occurrences)
