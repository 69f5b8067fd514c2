use Rattle.std.proofs.Common.{◌≡◌, ◌++◌, drop}
use Rattle.st_semantics.specs.Variables.{prems_vars}
use Rattle.st_order.specs.inner.Index.{names_in}
use Rattle.st_order.proofs.variables.push_prems_vars.Given as goal

abbrev pub invariant-loop-prem : goal.invariant-loop-prem
invariant-loop-prem l = names_in l.names ++ prems_vars (drop l.prem-index l.prems) ≡ names_in l.initial.names ++ prems_vars l.prems
