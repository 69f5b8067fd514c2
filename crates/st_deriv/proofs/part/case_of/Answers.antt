use Rattle.std.proofs.Common.{arith}
use Rattle.st_deriv.proofs.Parts.{case_length}
use Rattle.st_deriv.proofs.part.case_of.Goals as goal
use Rattle.st_deriv.proofs.part.case_of.Goals.{in_default-via-then-trees-lt2, in_default-via-else-trees-lt2+else-trees-lt3}

pub returns-in_default : goal.returns-in_default
returns-in_default c = case_length _ _ c.in_ok-trees.ensures (λ e. elim c.in_default.branch [
  | in_default-via-then-trees-lt2 w ↦ grind arith
  | in_default-via-else-trees-lt2+else-trees-lt3 w ↦ grind arith
])
