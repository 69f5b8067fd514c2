use Rattle.std.proofs.Common.{◌≡◌, ◌++◌, drop}
use Rattle.st_semantics.specs.Orders.{in_order}
use Rattle.st_order.specs.Known.{all_now}
use Rattle.st_algo.proofs.references.in_order.Given as goal

abbrev pub invariant-loop-number : goal.invariant-loop-number
invariant-loop-number l = all_now l.row ++ in_order l.prems (drop l.number-index l.order) ≡ in_order l.prems l.order
