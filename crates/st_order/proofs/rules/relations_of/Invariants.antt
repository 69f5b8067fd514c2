use Rattle.std.proofs.Common.{◌≡◌, ◌++◌, drop}
use Rattle.st_il.specs.Definitions.{relations_in}
use Rattle.st_order.specs.Known.{all_now}
use Rattle.st_order.proofs.rules.relations_of.Given as goal

abbrev pub invariant-loop-definition : goal.invariant-loop-definition
invariant-loop-definition l = all_now l.row ++ relations_in (drop l.definition-index l.defs) ≡ relations_in l.defs
