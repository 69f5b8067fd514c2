use Rattle.std.proofs.Common.{ap, ◌∙◌}
use Rattle.st_il.specs.declared.expression.IlPrem.{out-IlPrem}
use Rattle.st_il.specs.declared.expression.IlPrem.TheVariants as prem
use Rattle.st_semantics.specs.References.{exps_now}
use Rattle.st_ilcheck.proofs.ContentsLemmas.{condition-contents, goal-contents, otherwise-contents, each-contents}
use Rattle.st_ilcheck.proofs.premise_contents.+contents_of_premise.Goals as goal

pub returns-in_ok-found-in-If : goal.returns-in_ok-found-in-If
returns-in_ok-found-in-If t c = condition-contents c.args.premise.now c.in-If.exp c.in_ok-found-in-If.found (ap out-IlPrem c.in-If.is ∙ prem.outs-If c.in-If.exp) c.in_ok-found-in-If.ensures

pub returns-in_ok-found-in-Goal : goal.returns-in_ok-found-in-Goal
returns-in_ok-found-in-Goal t c =
    goal-contents c.args.premise.now c.in-Goal.field-0 c.in-Goal.exps c.as_slice.result.now c.in_ok-found-in-Goal.found (ap out-IlPrem c.in-Goal.is ∙ prem.outs-Goal c.in-Goal.field-0 c.in-Goal.exps) c.as_slice.ensures c.in_ok-found-in-Goal.ensures

pub returns-in-Otherwise : goal.returns-in-Otherwise
returns-in-Otherwise t c = otherwise-contents c.args.premise.now c.nothing.result (ap out-IlPrem c.in-Otherwise.is ∙ prem.outs-Otherwise) c.nothing.ensures

pub returns-in_ok-all-in-Each : goal.returns-in_ok-all-in-Each
returns-in_ok-all-in-Each t c =
    each-contents c.args.premise.now c.in-Each.how c.in-Each.field-1 c.in-Each.body c.get-body.result.now (exps_now c.as_slice-exps.result.now) c.in_ok-own-in-Each.own c.in_ok-counted-in-Each.counted c.in_ok-found-in-Each.found c.in_ok-inner-in-Each.inner
    c.in_ok-parts-in-Each.parts c.in_ok-all-in-Each.all (ap out-IlPrem c.in-Each.is ∙ prem.outs-Each c.in-Each.how c.in-Each.field-1 c.in-Each.body) c.get-body.ensures c.in_ok-own-in-Each.ensures
    (ap exps_now c.as_slice-exps.ensures ∙ c.in_ok-count-in-Each.ensures) c.in_ok-counted-in-Each.ensures c.in_ok-found-in-Each.ensures c.in_ok-inner-in-Each.ensures c.in_ok-parts-in-Each.ensures c.in_ok-all-in-Each.ensures
