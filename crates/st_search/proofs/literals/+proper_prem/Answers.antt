use Rattle.std.proofs.Common.{◌∙◌, ap, subst}
use Rattle.st_semantics.specs.References.{exps_now}
use Rattle.st_search.specs.Proper.{AreProperExps, IsProperPrem}
use Rattle.st_search.proofs.ProperLists.{then_ok, proper_If, proper_Goal, proper_Otherwise, proper_Each}
use Rattle.st_search.proofs.literals.+proper_prem.Goals as goal

pub returns-in-If : goal.returns-in-If
returns-in-If t c = then_ok c.proper_exp.result (proper_If c.args.premise.now c.in-If.exp c.in-If.is) c.proper_exp.ensures

pub returns-in-Goal : goal.returns-in-Goal
returns-in-Goal t c = then_ok c.proper_list.result (λ h. proper_Goal c.args.premise.now c.in-Goal.field-0 c.in-Goal.exps c.in-Goal.is (subst AreProperExps c.as_slice.ensures h)) c.proper_list.ensures

pub returns-in-Otherwise : goal.returns-in-Otherwise
returns-in-Otherwise t c = proper_Otherwise c.args.premise.now c.in-Otherwise.is

pub returns-in_ok-proper_exps-in-Each : goal.returns-in_ok-proper_exps-in-Each
returns-in_ok-proper_exps-in-Each t c =
    let counted = subst AreProperExps (ap exps_now c.as_slice-in-Each.ensures ∙ c.in_ok-exps-in-Each.ensures) c.in_ok-proper_exps-in-Each.ensures in
    then_ok c.proper_prem.result (λ h. proper_Each c.args.premise.now c.in-Each.how c.in-Each.field-1 c.in-Each.body c.in-Each.is counted (subst IsProperPrem c.get.ensures h)) c.proper_prem.ensures
