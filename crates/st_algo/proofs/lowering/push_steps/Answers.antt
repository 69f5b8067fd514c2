use Rattle.st_order.specs.inner.Index.{names_in}
use Rattle.st_algo.proofs.AlgorithmParts.{steps_next}
use Rattle.st_algo.proofs.lowering.push_steps.Goals as goal

pub loop-prem-preserved : goal.loop-prem-preserved
loop-prem-preserved c =
    steps_next c.args.directions.now.il.now c.args.prems.now c.loop-prem.prem-index c.prem-item.result (names_in c.loop-prem.bound.keys) (names_in c.bind.new.bound.keys) c.loop-prem.steps _ _ c.in_ok-step.step
    c.loop-prem-test.true c.prem-item.is c.in_ok-step.ensures c.in_ok-push.ensures.ok c.in_ok-bind.ensures c.loop-prem.invariant
