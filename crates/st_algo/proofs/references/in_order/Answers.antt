use Rattle.st_order.specs.Known.{all_now}
use Rattle.st_algo.proofs.InOrder.{in_order_next}
use Rattle.st_algo.proofs.references.in_order.Goals as goal

pub loop-number-preserved : goal.loop-number-preserved
loop-number-preserved c =
    in_order_next c.args.prems.now c.args.order.now c.loop-number.number-index (all_now c.loop-number.row) (all_now c.push_premise.new.row) _ c.loop-number-test.true c.loop-number.invariant c.in_ok-push_premise.ensures
