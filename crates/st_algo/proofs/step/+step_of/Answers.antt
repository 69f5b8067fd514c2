use Rattle.st_order.specs.inner.Index.{names_in}
use Rattle.st_algo.proofs.StepParts.{step_of_if, step_of_goal, step_of_otherwise, step_of_loop}
use Rattle.st_algo.proofs.step.+step_of.Goals as goal

pub returns-in_ok-condition-in-If : goal.returns-in_ok-condition-in-If
returns-in_ok-condition-in-If t c =
    step_of_if c.args.directions.now.il.now (names_in c.args.bound.now.keys) c.args.prem.now c.in-If.exp _ c.in-If.is c.in_ok-condition-in-If.ensures

pub returns-in_ok-judgement-in-Goal : goal.returns-in_ok-judgement-in-Goal
returns-in_ok-judgement-in-Goal t c =
    step_of_goal c.args.directions.now.il.now (names_in c.args.bound.now.keys) c.args.prem.now c.in-Goal.relation c.in-Goal.exps c.as_slice-exps.result.now _
    c.in-Goal.is c.as_slice-exps.ensures c.in_ok-judgement-in-Goal.ensures

pub returns-in-Otherwise : goal.returns-in-Otherwise
returns-in-Otherwise t c = step_of_otherwise c.args.directions.now.il.now (names_in c.args.bound.now.keys) c.args.prem.now c.in-Otherwise.is

pub returns-in_ok-whole-in-Each : goal.returns-in_ok-whole-in-Each
returns-in_ok-whole-in-Each t c =
    step_of_loop c.args.directions.now.il.now (names_in c.args.bound.now.keys) c.args.prem.now c.in-Each.how c.in-Each.list c.as_slice-list.result.now c.in-Each.body c.get-body.result.now
    (names_in c.in_ok-inside-in-Each.inside.keys) c.in_ok-step-in-Each.step _ c.in-Each.is c.as_slice-list.ensures c.get-body.ensures c.in_ok-inside-in-Each.ensures c.in_ok-step-in-Each.ensures
    c.in_ok-whole-in-Each.ensures
