use Rattle.std.proofs.Common.{◌≡◌, take}
use Rattle.st_order.specs.inner.Parts.{exps_in}
use Rattle.st_algo.proofs.references.expressions.Given as goal

abbrev pub invariant-loop-exp : goal.invariant-loop-exp
invariant-loop-exp l = exps_in l.row ≡ take l.exp-index l.exps
