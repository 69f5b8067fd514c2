use Rattle.std.proofs.Common.{rules, refl, subst}
use Rattle.st_elab_table.specs.Questions.{Breach, Gives, Fails}
use Rattle.st_elab_table.specs.Steps.{made}
use Rattle.st_elab_table.specs.Elaboration.{Answered}
use Rattle.st_elab_rows.specs.Asking.{question}
use Rattle.st_elab_rows.specs.declared.asking.Asking.TheVariants as asking
use Rattle.st_elab_rows.proofs.Builds.{Told-stops}
use Rattle.st_elab_table.specs.Inside.{InsideBreach}
use Rattle.st_elab_exp.proofs.Public.{is_elaborated_inside}
use Rattle.st_elab_exp.proofs.inside.check_inside.Goals as goal

pub returns-in_err-found : goal.returns-in_err-found
returns-in_err-found c =
    let D = c.args.decls.now in
    let S = c.args.scope.now in
    let w = c.args.within.now in
    Told-stops _ _ (λ (b : Breach). Answered D S (question w (asking.Check c.by_itself.result c.args.ty)) (Fails b)) (λ (b : Breach). InsideBreach D S w c.args.exp.now c.args.ty.now b)
    c.answer.result c.from_residual.result c.in_err-found.field-0.0 c.in_err-found.was (search rules)
    (λ b k. subst (λ q. Answered D S q (Fails b)) (c.by_itself.ensures w c.args.ty) k) c.answer.ensures

pub returns : goal.returns
returns c =
    let D = c.args.decls.now in
    let S = c.args.scope.now in
    let w = c.args.within.now in
    is_elaborated_inside D S w c.args.exp.now c.args.ty.now c.in_ok-found.found.ty c.in_ok-found.found.exp c.in_ok-found.found.exp refl
    (subst (λ q. Answered D S q (Gives (made c.in_ok-found.found.exp c.in_ok-found.found.ty))) (c.by_itself.ensures w c.args.ty) c.in_ok-found.ensures)
