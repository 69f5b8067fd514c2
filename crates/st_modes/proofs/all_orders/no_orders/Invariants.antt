use Rattle.std.proofs.Common.{◌≡◌, map, take}
use Rattle.st_order.specs.Known.{all_now}
use Rattle.st_modes.specs.inner.Orders.{no_order}
use Rattle.st_modes.proofs.all_orders.no_orders.Given as goal

abbrev pub invariant-loop-rule : goal.invariant-loop-rule
invariant-loop-rule l = l.orders ≡ map no_order (all_now (take l._rule-index l.rules))
