use Rattle.std.proofs.Common.{take}
use Rattle.st_order.specs.Known.{all_now}
use Rattle.st_modes.specs.inner.Orders.{AreOrders}
use Rattle.st_modes.proofs.all_orders.orders_of_rules.Given as goal

abbrev pub invariant-loop-rule : goal.invariant-loop-rule
invariant-loop-rule l = AreOrders l.directions.il.now (all_now (take l.rule-index l.rules)) l.found
