use Rattle.st_order.proofs.VariableParts.{vars_next}
use Rattle.st_order.proofs.variables.push_vars_of.Goals as goal

pub loop-exp-preserved : goal.loop-exp-preserved
loop-exp-preserved c =
    vars_next c.args.exps.now c.loop-exp.exp-index c.exp-item.result _ _ _ c.loop-exp-test.true c.exp-item.is c.loop-exp.invariant c.in_ok-push_vars.ensures
