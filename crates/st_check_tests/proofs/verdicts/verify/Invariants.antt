use Rattle.std.proofs.Common.{◌≤◌, length}
use Rattle.st_check_tests.proofs.verdicts.verify.Given as goal

abbrev pub invariant-loop-line : goal.invariant-loop-line
invariant-loop-line g l = length l.verifier.notes.lines ≤ l.line-index
