use Rattle.std.proofs.Common.{◌≡◌, ◌++◌, drop}
use Rattle.st_semantics.specs.Patterns.{bound_by}
use Rattle.st_order.specs.inner.Index.{names_in}
use Rattle.st_order.specs.inner.Parts.{exps_in}
use Rattle.st_order.proofs.bindings.push_bound_by.Given as goal

abbrev pub invariant-loop-exp : goal.invariant-loop-exp
invariant-loop-exp l = names_in l.names ++ bound_by (exps_in (drop l.exp-index l.exps)) ≡ names_in l.initial.names ++ bound_by (exps_in l.exps)
