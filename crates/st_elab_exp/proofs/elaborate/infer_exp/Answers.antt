use Rattle.std.proofs.Common.{rules, ap, subst}
use Rattle.std.specs.Prelude.{Ok}
use Rattle.st_il.specs.declared.ty.Ty.{Ty}
use Rattle.st_il.specs.declared.expression.IlExp.{IlExp}
use Rattle.st_elab_table.specs.Forms.{place}
use Rattle.st_elab_table.specs.Questions.{infer, Made, Breach, Fails}
use Rattle.st_elab_table.specs.Steps.{made, found}
use Rattle.st_elab_table.specs.Elaboration.{Answered, around, Infer, InferBreach}
use Rattle.st_elab_rows.specs.Told.{Told}
use Rattle.st_elab_rows.proofs.Builds.{Told-stops}
use Rattle.st_elab_exp.proofs.Public.{told_given, told_refused, found_erased, is_inferred}
use Rattle.st_elab_exp.proofs.elaborate.infer_exp.Goals as goal

pub returns-in_err-found : goal.returns-in_err-found
returns-in_err-found c =
    let D = c.args.decls.now in
    let S = c.args.scope.now in
    let e = c.args.exp.now in
    let told : Told (λ (p : IlExp × Ty). Infer D S e p.0 p.1) (InferBreach D S e) c.from_residual-in_err-found.result = Told-stops _ _
    (λ (b : Breach). Answered D S (infer c.in_ok-within.within (place e) e) (Fails b)) (InferBreach D S e)
    c.answer.result c.from_residual-in_err-found.result c.in_err-found.field-0.0 c.in_err-found.was (search rules)
    (λ b k. subst (λ z. Answered D S (infer z (place e) e) (Fails b)) c.in_ok-within.ensures k) c.answer.ensures in
    record {
      told = told;
      gives = λ x t g. told_given D S (found (around S) e) (λ (p : IlExp × Ty). made p.0 p.1) _ (x, t) (λ p m. ap (λ (n : Made). (n.exp, n.ty)) m) told g;
      refuses = λ b g. told_refused D S (found (around S) e) (λ (p : IlExp × Ty). made p.0 p.1) _ b told g;
      erased = λ il agrees. found_erased il D S agrees e c.from_residual-in_err-found.result told;
    }

pub returns : goal.returns
returns c =
    let D = c.args.decls.now in
    let S = c.args.scope.now in
    let e = c.args.exp.now in
    let told = is_inferred D S e c.in_ok-found.found.ty c.in_ok-within.within c.into_inner.result c.in_ok-found.found.exp c.in_ok-within.ensures c.into_inner.ensures c.in_ok-found.ensures in
    record {
      told = told;
      gives = λ x t g. told_given D S (found (around S) e) (λ (p : IlExp × Ty). made p.0 p.1) (Ok (c.into_inner.result, c.in_ok-found.found.ty)) (x, t) (λ p m. ap (λ (n : Made). (n.exp, n.ty)) m) told g;
      refuses = λ b g. told_refused D S (found (around S) e) (λ (p : IlExp × Ty). made p.0 p.1) (Ok (c.into_inner.result, c.in_ok-found.found.ty)) b told g;
      erased = λ il agrees. found_erased il D S agrees e (Ok (c.into_inner.result, c.in_ok-found.found.ty)) told;
    }
