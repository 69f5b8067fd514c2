use Rattle.std.proofs.Common.{refl, arith}
use Rattle.st_deriv.proofs.LineKinds.{head_length}
use Rattle.st_deriv.proofs.read.read_head.Goals as goal
use Rattle.st_deriv.proofs.read.read_head.Goals.{in_default-via-then-parts-lt2, in_default-via-else-parts-lt2+else-parts-lt3}

pub returns-in_default : goal.returns-in_default
returns-in_default c = (
  refl,
  head_length _ (λ e. elim c.in_default.branch [
    | in_default-via-then-parts-lt2 w ↦ grind arith
    | in_default-via-else-parts-lt2+else-parts-lt3 w ↦ grind arith
  ]),
)
