use Rattle.std.proofs.Common.{rules}
use Rattle.st_elab_table.specs.Questions.{Breach}
use Rattle.st_elab_rows.proofs.Builds.{Told-stops}
use Rattle.st_elab_table.specs.Premises.{PremBreach, PremsBreach}
use Rattle.st_elab_exp.proofs.Building.{next_prem, breach_at, all_prems}
use Rattle.st_elab_exp.proofs.premise.elaborate_prems.Goals as goal

pub loop-prem-preserved : goal.loop-prem-preserved
loop-prem-preserved c =
    next_prem c.args.decls.now c.args.scope.now c.args.within.now c.args.prems.now c.loop-prem.prem-index c.prem-item.result c.loop-prem.all _ c.in_ok-one.one
    c.loop-prem-test.true c.prem-item.is c.in_ok-push.ensures.ok c.loop-prem.invariant c.in_ok-one.ensures

pub returns-in_err-one : goal.returns-in_err-one
returns-in_err-one c =
    let D = c.args.decls.now in
    let S = c.args.scope.now in
    let w = c.args.within.now in
    Told-stops _ _ (λ (b : Breach). PremBreach D S w c.prem-item.result b) (λ (b : Breach). PremsBreach D S w c.args.prems.now b)
    c.elaborate_prem.result c.from_residual.result c.in_err-one.field-0.0 c.in_err-one.was (search rules)
    (λ b k. breach_at D S w c.args.prems.now c.loop-prem.prem-index c.prem-item.result c.loop-prem.all b c.loop-prem-test.true c.prem-item.is c.loop-prem.invariant k)
    c.elaborate_prem.ensures

pub returns : goal.returns
returns c = all_prems c.args.decls.now c.args.scope.now c.args.within.now c.args.prems.now c.loop-prem.prem-index c.loop-prem.all c.loop-prem-test.false c.loop-prem.invariant
