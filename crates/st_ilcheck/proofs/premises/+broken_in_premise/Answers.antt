use Rattle.std.proofs.Common.{sym, ap, ◌∙◌}
use Rattle.st_il.specs.declared.expression.IlPrem.{out-IlPrem}
use Rattle.st_il.specs.declared.expression.IlPrem.TheOpen.{IlPrem-F}
use Rattle.st_il.specs.declared.expression.IlPrem.TheVariants as prem
use Rattle.st_ilcheck.specs.Premises as premise
use Rattle.st_ilcheck.proofs.Made.{each-made}
use Rattle.st_ilcheck.proofs.premises.+broken_in_premise.Goals as goal

pub returns-in_ok-broken-in-If : goal.returns-in_ok-broken-in-If
returns-in_ok-broken-in-If t c = c.in_ok-broken-in-If.ensures c.args.premise.now (ap out-IlPrem c.in-If.is ∙ prem.outs-If c.in-If.exp)

pub returns-in_ok-broken-in-Goal : goal.returns-in_ok-broken-in-Goal
returns-in_ok-broken-in-Goal t c =
    c.in_ok-broken-in-Goal.ensures c.args.premise.now
    ((ap out-IlPrem c.in-Goal.is ∙ prem.outs-Goal c.in-Goal.relation c.in-Goal.exps) ∙ ap (λ z. IlPrem-F.Goal c.in-Goal.relation z) (sym c.as_slice.ensures))

pub returns-in-Otherwise : goal.returns-in-Otherwise
returns-in-Otherwise t c = premise.PremBreaks.otherwise (ap out-IlPrem c.in-Otherwise.is ∙ prem.outs-Otherwise) c.new.ensures

pub returns-in_ok-all-in-Each : goal.returns-in_ok-all-in-Each
returns-in_ok-all-in-Each t c =
    each-made c.args.language.now c.args.listed.now c.args.premise.now c.in-Each.how c.in-Each.names c.as_slice-names.result.now c.as_slice-names.result.now c.in-Each.body c.get-body.result.now c.get-body.result.now c.as_slice-inner.result.now
    c.in_ok-counted-in-Each.counted c.in_ok-named-in-Each.named c.in_ok-more-in-Each.more c.in_ok-all-in-Each.all c.each_kept-kept.result
    (ap out-IlPrem c.in-Each.is ∙ prem.outs-Each c.in-Each.how c.in-Each.names c.in-Each.body) c.as_slice-names.ensures c.as_slice-names.ensures c.get-body.ensures c.get-body.ensures
    c.in_ok-counted-in-Each.ensures c.each_kept-kept.ensures c.in_ok-named-in-Each.ensures (c.as_slice-inner.ensures ∙ c.in_ok-inside-in-Each.ensures) c.in_ok-more-in-Each.ensures c.in_ok-all-in-Each.ensures
