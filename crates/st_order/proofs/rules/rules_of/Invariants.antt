use Rattle.std.proofs.Common.{◌≡◌, ◌++◌, drop}
use Rattle.st_il.specs.Definitions.{rules_from, rules_in}
use Rattle.st_order.specs.Known.{all_now}
use Rattle.st_order.proofs.rules.rules_of.Given as goal

abbrev pub invariant-loop-definition : goal.invariant-loop-definition
invariant-loop-definition l = all_now l.row ++ rules_from l.name (rules_in (drop l.definition-index l.defs)) ≡ rules_from l.name (rules_in l.defs)
