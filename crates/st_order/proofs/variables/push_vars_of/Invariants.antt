use Rattle.std.proofs.Common.{◌≡◌, ◌++◌, drop}
use Rattle.st_semantics.specs.Variables.{vars_of}
use Rattle.st_order.specs.inner.Index.{names_in}
use Rattle.st_order.specs.inner.Parts.{exps_in}
use Rattle.st_order.proofs.variables.push_vars_of.Given as goal

abbrev pub invariant-loop-exp : goal.invariant-loop-exp
invariant-loop-exp l = names_in l.names ++ vars_of (exps_in (drop l.exp-index l.exps)) ≡ names_in l.initial.names ++ vars_of (exps_in l.exps)
