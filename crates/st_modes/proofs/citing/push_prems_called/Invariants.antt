use Rattle.std.proofs.Common.{◌≡◌, ◌++◌, map, drop}
use Rattle.st_il.specs.Names.{flattened}
use Rattle.st_semantics.specs.Variables.{prem_called}
use Rattle.st_order.specs.inner.Index.{names_in}
use Rattle.st_modes.proofs.citing.push_prems_called.Given as goal

abbrev pub invariant-loop-prem : goal.invariant-loop-prem
invariant-loop-prem l = names_in l.names ++ flattened (map prem_called (drop l.prem-index l.prems)) ≡ names_in l.initial.names ++ flattened (map prem_called l.prems)
