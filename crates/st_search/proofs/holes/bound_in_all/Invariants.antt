use Rattle.std.proofs.Common.{◌≡◌, ◌++◌, drop}
use Rattle.st_semantics.specs.Variables.{vars_of}
use Rattle.st_eval.specs.inner.Known.{names_now}
use Rattle.st_search.proofs.holes.bound_in_all.Given as goal

abbrev pub invariant-loop-exp : goal.invariant-loop-exp
invariant-loop-exp l = names_now l.names ++ vars_of (drop l.exp-index l.exps) ≡ vars_of l.exps
