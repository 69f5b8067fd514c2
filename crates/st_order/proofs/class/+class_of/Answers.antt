use Rattle.st_order.specs.inner.Index.{names_in}
use Rattle.st_order.proofs.ClassParts.{condition_read, goal_read, each_out, each_in}
use Rattle.st_order.proofs.class.+class_of.Goals as goal

pub returns-in_ok-condition-in-If : goal.returns-in_ok-condition-in-If
returns-in_ok-condition-in-If t c =
    condition_read c.args.directions.now.il.now (names_in c.args.bound.now.keys) c.args.prem.now c.in-If.exp _ c.in-If.is c.in_ok-condition-in-If.ensures

pub returns-in_ok-judgement-in-Goal : goal.returns-in_ok-judgement-in-Goal
returns-in_ok-judgement-in-Goal t c =
    goal_read c.args.directions.now.il.now (names_in c.args.bound.now.keys) c.args.prem.now c.in-Goal.relation c.in-Goal.exps c.as_slice-exps.result.now c.mask_under-mask.result.now _
    c.in-Goal.is c.as_slice-exps.ensures c.mask_under-mask.ensures c.in_ok-judgement-in-Goal.ensures

pub returns-in_default : goal.returns-in_default
returns-in_default t c =
    each_out c.args.directions.now.il.now (names_in c.args.bound.now.keys) c.args.prem.now c.in_ok-inside-in-Each.inside (λ set. names_in set.keys) c.in-Each.how c.in-Each.list c.as_slice-list.result.now c.in-Each.body c.get-body.result.now
    c.in-Each.is c.as_slice-list.ensures c.get-body.ensures c.in_ok-inside-in-Each.ensures c.in_default.is

pub returns-in_ok-entered-in-Each : goal.returns-in_ok-entered-in-Each
returns-in_ok-entered-in-Each t c =
    each_in c.args.directions.now.il.now (names_in c.args.bound.now.keys) c.args.prem.now c.in_ok-inside-in-Each.inside c.in-Some.inside (λ set. names_in set.keys) c.in-Each.how c.in-Each.list c.as_slice-list.result.now c.in-Each.body c.get-body.result.now
    _ c.in-Each.is c.as_slice-list.ensures c.get-body.ensures c.in_ok-inside-in-Each.ensures c.in-Some.is c.in_ok-entered-in-Each.ensures
