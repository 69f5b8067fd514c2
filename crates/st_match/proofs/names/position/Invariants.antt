use Rattle.std.proofs.Common.{take}
use Rattle.st_match.proofs.InOrder.{AreBefore}
use Rattle.st_match.proofs.names.position.Given as goal

abbrev pub invariant-loop-i : goal.invariant-loop-i
invariant-loop-i l = AreBefore (take l.i l.names) l.name
