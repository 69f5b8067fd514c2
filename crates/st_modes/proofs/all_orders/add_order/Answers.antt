use Rattle.std.proofs.Common.{refl}
use Rattle.st_modes.proofs.AreOrders.{adds_ordered, adds_unordered}
use Rattle.st_modes.proofs.all_orders.add_order.Goals as goal

pub returns-in_ok-push-in-Ok : goal.returns-in_ok-push-in-Ok
returns-in_ok-push-in-Ok c rules h =
    adds_ordered c.args.directions.now.il.now rules c.args.rule.now c.args.found.now _ c.in_ok-order.order c.in-Ok.numbers c.in_ok-order.ensures c.in-Ok.is c.in_ok-push-in-Ok.ensures.ok refl h

pub returns-in_ok-note-in-Err : goal.returns-in_ok-note-in-Err
returns-in_ok-note-in-Err c rules h =
    adds_unordered c.args.directions.now.il.now rules c.args.rule.now c.args.found.now _ c.in_ok-order.order c.in-Err.fault c.in_ok-order.ensures c.in-Err.is c.in_ok-push-in-Err.ensures.ok c.in_ok-note-in-Err.ensures h
