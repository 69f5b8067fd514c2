use Rattle.std.proofs.Common.{subst, take}
use Rattle.st_order.specs.Known.{all_now}
use Rattle.st_modes.specs.inner.Orders.{AreOrders}
use Rattle.st_modes.proofs.AreOrders.{all_now_next}
use Rattle.st_modes.proofs.all_orders.orders_of_rules.Goals as goal

pub loop-rule-preserved : goal.loop-rule-preserved
loop-rule-preserved c =
    subst (λ rules. AreOrders c.args.directions.now.il.now rules c.add_order.new.found)
    (all_now_next c.args.rules.now c.loop-rule.rule-index c.rule-item.result c.loop-rule-test.true c.rule-item.is)
    (c.in_ok-add_order.ensures (all_now (take c.loop-rule.rule-index c.args.rules.now)) c.loop-rule.invariant)
