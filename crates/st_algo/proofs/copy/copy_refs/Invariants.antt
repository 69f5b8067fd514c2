use Rattle.std.proofs.Common.{◌≡◌, take}
use Rattle.st_order.specs.inner.Parts.{exps_in}
use Rattle.st_algo.proofs.copy.copy_refs.Given as goal

abbrev pub invariant-loop-exp : goal.invariant-loop-exp
invariant-loop-exp l = l.copies ≡ exps_in (take l.exp-index l.exps)
