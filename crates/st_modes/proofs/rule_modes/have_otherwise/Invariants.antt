use Rattle.std.proofs.Common.{◌≡◌, drop}
use Rattle.std.specs.List.{list_any}
use Rattle.st_il.specs.declared.expression.IlPrem.{IlPrem}
use Rattle.st_semantics.specs.Variables.{has_otherwise}
use Rattle.st_modes.proofs.rule_modes.have_otherwise.Given as goal

abbrev pub invariant-loop-prem : goal.invariant-loop-prem
invariant-loop-prem l = list_any (λ (p : IlPrem). has_otherwise p) l.prems ≡ list_any (λ (p : IlPrem). has_otherwise p) (drop l.prem-index l.prems)
