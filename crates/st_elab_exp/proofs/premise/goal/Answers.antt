use Rattle.std.proofs.Common.{rules, sym, subst}
use Rattle.st_num.specs.declared.rule.RuleId.TheVariants.{B2}
use Rattle.st_il.specs.declared.expression.IlPrem.TheVariants as premise
use Rattle.st_elab_table.specs.Questions.{Breach}
use Rattle.st_elab_rows.proofs.Builds.{Told-stops}
use Rattle.st_elab_table.specs.Judgements.{broken, JudgedBreach}
use Rattle.st_elab_table.specs.Premises.{ElabPrem, judgement, PremBreach, undeclared, in_judgement}
use Rattle.st_elab_exp.proofs.premise.goal.Goals as goal

pub returns-in_default : goal.returns-in_default
returns-in_default c = λ p is at.
    subst (λ z. PremBreach c.args.decls.now c.args.scope.now c.args.within.now p (broken z B2)) at
    (undeclared c.args.name.now c.args.exp.now is (sym c.in_default.ensures))

pub returns-in_err-exps : goal.returns-in_err-exps
returns-in_err-exps c = λ p is at.
    let D = c.args.decls.now in
    let S = c.args.scope.now in
    let w = c.args.within.now in
    let R = c.in-Some.relation.now in
    Told-stops _ _ (λ (b : Breach). JudgedBreach D S w R c.args.exp.now b) (λ (b : Breach). PremBreach D S w p b)
    c.judged.result c.from_residual.result c.in_err-exps.field-0.0 c.in_err-exps.was (search rules)
    (λ b k. in_judgement c.args.name.now c.args.exp.now R is (sym c.in-Some.ensures) k) c.judged.ensures

pub returns : goal.returns
returns c = λ p is at.
    let D = c.args.decls.now in
    let S = c.args.scope.now in
    let w = c.args.within.now in
    let R = c.in-Some.relation.now in
    subst (λ z. ElabPrem D S w p (premise.Goal z c.in_ok-exps.exps)) (sym c.in_ok-copy.ensures)
    (judgement c.args.name.now c.args.exp.now R c.in_ok-exps.exps is (sym c.in-Some.ensures) c.in_ok-exps.ensures)
