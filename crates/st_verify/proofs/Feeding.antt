-- What comes of the bytes of a line.
use Rattle.std.proofs.Common.{ℕ, List, inl}
use Rattle.std.specs.Prelude.{Result, Ok, Err}
use Rattle.st_deriv.specs.declared.line.Line.{Line}
use Rattle.st_deriv.specs.LineText.{LineText}
use Rattle.st_verify.specs.declared.fault.VerifyFault.{VerifyFault}
use Rattle.st_verify.specs.declared.fault.VerifyFault.TheVariants.{Refused, Memory}
use Rattle.st_verify.specs.Verifier.{Checking, JudgesNext, FeedsNext}

-- a line that was read is judged
pub feeds_judged : (old : Checking) (bytes : List ℕ) (line : Line) (result : Result (Unit {0}) VerifyFault) (new : Checking) → LineText line bytes
    → JudgesNext old line result new → FeedsNext old bytes result new
feeds_judged old bytes line (Ok done) new text judged = inl (line, text, judged)
feeds_judged old bytes line (Err Memory) new text judged = judged
feeds_judged old bytes line (Err (Refused rule at typing)) new text judged = inl (line, text, judged)
