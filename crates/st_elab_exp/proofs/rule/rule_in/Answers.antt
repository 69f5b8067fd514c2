use Rattle.std.proofs.Common.{rules, subst}
use Rattle.st_elab_table.specs.Questions.{Breach}
use Rattle.st_elab_rows.proofs.Builds.{Told-stops}
use Rattle.st_elab_table.specs.Judgements.{Judged, JudgedBreach}
use Rattle.st_elab_table.specs.Premises.{PremsBreach}
use Rattle.st_elab_table.specs.Rules.{RuleBreach, in_conclusion, in_premises}
use Rattle.st_elab_exp.proofs.rule.rule_in.Goals as goal

pub returns-in_err-exps : goal.returns-in_err-exps
returns-in_err-exps c =
    let D = c.args.decls.now in
    let S = c.args.scope.now in
    let R = c.args.relation.now in
    let e = c.args.conclusion.now in
    Told-stops _ _ (λ (b : Breach). JudgedBreach D S c.in_ok-within.within R e b) (λ (b : Breach). RuleBreach D R e c.args.premises.now b)
    c.judged.result c.from_residual-in_err-exps.result c.in_err-exps.field-0.0 c.in_err-exps.was (search rules)
    (λ b k. in_conclusion S c.requires (subst (λ z. JudgedBreach D S z R e b) c.in_ok-within.ensures k)) c.judged.ensures

pub returns-in_err-prems : goal.returns-in_err-prems
returns-in_err-prems c =
    let D = c.args.decls.now in
    let S = c.args.scope.now in
    let R = c.args.relation.now in
    let e = c.args.conclusion.now in
    let ps = c.args.premises.now in
    Told-stops _ _ (λ (b : Breach). PremsBreach D S c.in_ok-within.within ps b) (λ (b : Breach). RuleBreach D R e ps b)
    c.elaborate_prems.result c.from_residual-in_err-prems.result c.in_err-prems.field-0.0 c.in_err-prems.was (search rules)
    (λ b k. in_premises S c.in_ok-exps.exps c.requires (subst (λ z. Judged D S z R e c.in_ok-exps.exps) c.in_ok-within.ensures c.in_ok-exps.ensures)
    (subst (λ z. PremsBreach D S z ps b) c.in_ok-within.ensures k)) c.elaborate_prems.ensures
