use Rattle.std.proofs.Common.{◌≡◌, not, drop}
use Rattle.std.specs.List.{list_all}
use Rattle.st_il.specs.declared.expression.IlPrem.{IlPrem}
use Rattle.st_semantics.specs.Variables.{cites}
use Rattle.st_modes.proofs.rule_modes.cite_nothing.Given as goal

abbrev pub invariant-loop-prem : goal.invariant-loop-prem
invariant-loop-prem l = list_all (λ (p : IlPrem). not (cites p)) l.prems ≡ list_all (λ (p : IlPrem). not (cites p)) (drop l.prem-index l.prems)
