use Rattle.st_order.proofs.BoundParts.{bound_by_next}
use Rattle.st_order.proofs.bindings.push_bound_by.Goals as goal

pub loop-exp-preserved : goal.loop-exp-preserved
loop-exp-preserved c =
    bound_by_next c.args.exps.now c.loop-exp.exp-index c.exp-item.result _ _ _ c.loop-exp-test.true c.exp-item.is c.loop-exp.invariant c.in_ok-push_if_pattern.ensures
