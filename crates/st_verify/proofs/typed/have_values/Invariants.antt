use Rattle.std.proofs.Common.{take}
use Rattle.st_verify.specs.SmallValues.{AreCaseValues}
use Rattle.st_verify.proofs.typed.have_values.Given as goal

abbrev pub invariant-loop-i : goal.invariant-loop-i
invariant-loop-i l = AreCaseValues (take l.i l.exps) (take l.i l.values)
