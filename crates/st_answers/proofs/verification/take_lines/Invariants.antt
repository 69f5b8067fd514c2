use Rattle.std.specs.Prelude.{length}
use Rattle.st_answers.specs.inner.Checks.{TakenTo}
use Rattle.st_answers.proofs.verification.take_lines.Given as goal

abbrev pub invariant-loop-line : goal.invariant-loop-line
invariant-loop-line l = TakenTo l.fn.verifier.il l.bytes l.verifier l.rest

abbrev pub decreases-loop-line : goal.decreases-loop-line
decreases-loop-line l = length l.rest
