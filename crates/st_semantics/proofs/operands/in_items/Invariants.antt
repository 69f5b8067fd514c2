use Rattle.std.proofs.Common.{◌≡◌, ◌++◌, drop, map}
use Rattle.st_semantics.specs.Operands.{item_exp}
use Rattle.st_semantics.specs.References.{exps_now}
use Rattle.st_semantics.proofs.operands.in_items.Given as goal

abbrev pub invariant-loop-item : goal.invariant-loop-item
invariant-loop-item l = exps_now l.found ++ map item_exp (drop l.item-index l.items) ≡ map item_exp l.items
