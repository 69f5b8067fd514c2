use Rattle.std.proofs.Common.{rules, ap, sym, subst}
use Rattle.std.specs.Prelude.{Ok}
use Rattle.st_elab_table.specs.Questions.{Breach}
use Rattle.st_elab_table.specs.Steps.{made, asked, exp_of}
use Rattle.st_elab_table.specs.Elaboration.{around, Elab, ElabBreach}
use Rattle.st_elab_rows.specs.Told.{Told}
use Rattle.st_elab_rows.proofs.Builds.{Told-stops}
use Rattle.st_elab_table.specs.Inside.{ElabInside, InsideBreach}
use Rattle.st_elab_exp.proofs.Public.{told_given, told_refused, told_erased}
use Rattle.st_elab_exp.proofs.elaborate.check_exp.Goals as goal

pub returns-in_err-checked : goal.returns-in_err-checked
returns-in_err-checked c =
    let D = c.args.decls.now in
    let S = c.args.scope.now in
    let e = c.args.exp.now in
    let t = c.args.ty.now in
    let told : Told (Elab D S e t) (ElabBreach D S e t) c.from_residual-in_err-checked.result = Told-stops _ _
    (λ (b : Breach). InsideBreach D S c.in_ok-within.within e t b) (ElabBreach D S e t)
    c.check_inside.result c.from_residual-in_err-checked.result c.in_err-checked.field-0.0 c.in_err-checked.was (search rules)
    (λ b k. subst (λ z. InsideBreach D S z e t b) c.in_ok-within.ensures k) c.check_inside.ensures in
    record {
      told = told;
      gives = λ x g. told_given D S (asked (around S) e t) (λ y. made y t) _ x (λ y m. ap exp_of m) told g;
      refuses = λ b g. told_refused D S (asked (around S) e t) (λ y. made y t) _ b told g;
      erased = λ il agrees. told_erased il D S agrees e t c.from_residual-in_err-checked.result told;
    }

pub returns : goal.returns
returns c =
    let D = c.args.decls.now in
    let S = c.args.scope.now in
    let e = c.args.exp.now in
    let t = c.args.ty.now in
    let told : Elab D S e t c.into_inner.result =
    subst (Elab D S e t) (sym c.into_inner.ensures) (subst (λ z. ElabInside D S z e t c.in_ok-checked.checked) c.in_ok-within.ensures c.in_ok-checked.ensures) in
    record {
      told = told;
      gives = λ x g. told_given D S (asked (around S) e t) (λ y. made y t) (Ok c.into_inner.result) x (λ y m. ap exp_of m) told g;
      refuses = λ b g. told_refused D S (asked (around S) e t) (λ y. made y t) (Ok c.into_inner.result) b told g;
      erased = λ il agrees. told_erased il D S agrees e t (Ok c.into_inner.result) told;
    }
