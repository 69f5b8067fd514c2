use Rattle.std.proofs.Common.{length}
use Rattle.st_ilread.proofs.IlTexts.{LinesSoFar}
use Rattle.st_ilread.proofs.il.read_lines.Given as goal

abbrev pub invariant-lines : goal.invariant-lines
invariant-lines l = LinesSoFar l.defs l.bytes l.rest

abbrev pub decreases-lines : goal.decreases-lines
decreases-lines l = length l.rest
