use Rattle.std.proofs.Common.{refl, arith}
use Rattle.st_deriv.proofs.LineKinds.{end_length}
use Rattle.st_deriv.proofs.read.read_end.Goals as goal
use Rattle.st_deriv.proofs.read.read_end.Goals.{in_default-via-then-parts-lt1, in_default-via-else-parts-lt1+else-parts-lt2}

pub returns-in_default : goal.returns-in_default
returns-in_default c = (
  refl,
  end_length _ (λ e. elim c.in_default.branch [
    | in_default-via-then-parts-lt1 w ↦ grind arith
    | in_default-via-else-parts-lt1+else-parts-lt2 w ↦ grind arith
  ]),
)
