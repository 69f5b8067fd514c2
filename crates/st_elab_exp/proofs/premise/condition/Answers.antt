use Rattle.std.proofs.Common.{rules, sym, subst}
use Rattle.st_il.specs.declared.ty.Ty.TheVariants as ty
use Rattle.st_il.specs.declared.expression.IlPrem.TheVariants as premise
use Rattle.st_elab_table.specs.Questions.{Breach}
use Rattle.st_elab_rows.proofs.Builds.{Told-stops}
use Rattle.st_elab_table.specs.Inside.{InsideBreach}
use Rattle.st_elab_table.specs.Premises.{ElabPrem, condition, PremBreach, in_condition}
use Rattle.st_elab_exp.proofs.premise.condition.Goals as goal

pub returns-in_err-exp : goal.returns-in_err-exp
returns-in_err-exp c = λ p is.
    let D = c.args.decls.now in
    let S = c.args.scope.now in
    let w = c.args.within.now in
    Told-stops _ _ (λ (b : Breach). InsideBreach D S w c.args.exp.now ty.Bool b) (λ (b : Breach). PremBreach D S w p b)
    c.check_inside.result c.from_residual.result c.in_err-exp.field-0.0 c.in_err-exp.was (search rules) (λ b k. in_condition c.args.exp.now is k) c.check_inside.ensures

pub returns : goal.returns
returns c = λ p is.
    subst (λ z. ElabPrem c.args.decls.now c.args.scope.now c.args.within.now p (premise.If z)) (sym c.into_inner.ensures)
    (condition c.args.exp.now c.in_ok-exp.exp is c.in_ok-exp.ensures)
