use Rattle.std.proofs.Common.{◌≡◌, ◌++◌, drop}
use Rattle.st_semantics.specs.References.{exps_now}
use Rattle.st_semantics.proofs.operands.each.Given as goal

abbrev pub invariant-loop-exp : goal.invariant-loop-exp
invariant-loop-exp l = exps_now l.found ++ drop l.exp-index l.exps ≡ l.exps
