use Rattle.std.proofs.Common.{take}
use Rattle.std.specs.Prelude.{All}
use Rattle.st_ilcheck.specs.Declarations.{IsOnceIn}
use Rattle.st_ilcheck.proofs.once.all_once.Given as goal

abbrev pub invariant-loop-i : goal.invariant-loop-i
invariant-loop-i l = All (IsOnceIn l.names) (take l.i l.cited)
