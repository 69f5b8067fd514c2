use Rattle.std.proofs.Common.{rules, refl, sym, ap, ◌∙◌, subst, length}
use Rattle.st_il.specs.declared.expression.IlExp.{IlExp}
use Rattle.st_elab_table.specs.Questions.{Breach}
use Rattle.st_elab_table.specs.Steps.{each_asked, exp_of}
use Rattle.st_elab_table.specs.Parts.{AskedAs, Breaks}
use Rattle.st_elab_rows.proofs.Builds.{Told-stops}
use Rattle.st_elab_table.specs.Inside.{ElabInside, InsideBreach}
use Rattle.st_elab_table.specs.Premises.{ElabPrems, PremsBreach}
use Rattle.st_elab_table.specs.Clauses.{parts_of, ElabClause, ClauseBreach, in_arguments, in_result, in_premises}
use Rattle.st_elab_exp.proofs.Clausing.{questions_are}
use Rattle.st_elab_exp.proofs.clause.clause_in.Goals as goal

pub check_parts-requires : goal.check_parts-requires
check_parts-requires c = c.requires.number ∙ ap length (sym c.as_slice.ensures)

pub returns-in_err-exps : goal.returns-in_err-exps
returns-in_err-exps c = λ at.
    let D = c.args.decls.now in
    let S = c.args.scope.now in
    let f = c.args.fun.now in
    let parts = parts_of c.args.args.now c.args.value.now c.args.premises.now in
    let w = c.in_ok-within.within in
    let tys = c.as_slice.result.now in
    Told-stops _ _ (λ (b : Breach). Breaks D S (each_asked w parts.args tys) b) (λ (b : Breach). ClauseBreach D f at parts b)
    c.check_parts.result c.from_residual-in_err-exps.result c.in_err-exps.field-0.0 c.in_err-exps.was (search rules)
    (λ b k. in_arguments S c.requires.number c.requires.scope (subst (λ z. Breaks D S z b) (questions_are S f parts w tys c.in_ok-within.ensures c.as_slice.ensures) k)) c.check_parts.ensures

pub returns-in_err-one : goal.returns-in_err-one
returns-in_err-one c = λ at.
    let D = c.args.decls.now in
    let S = c.args.scope.now in
    let f = c.args.fun.now in
    let parts = parts_of c.args.args.now c.args.value.now c.args.premises.now in
    let w = c.in_ok-within.within in
    let tys = c.as_slice.result.now in
    Told-stops _ _ (λ (b : Breach). InsideBreach D S w parts.result f.result b) (λ (b : Breach). ClauseBreach D f at parts b)
    c.check_inside.result c.from_residual-in_err-one.result c.in_err-one.field-0.0 c.in_err-one.was (search rules)
    (λ b k. in_result S c.in_ok-exps.exps c.requires.number c.requires.scope
    (subst (λ z. AskedAs D S z IlExp exp_of c.in_ok-exps.exps) (questions_are S f parts w tys c.in_ok-within.ensures c.as_slice.ensures) c.in_ok-exps.ensures)
    (subst (λ z. InsideBreach D S z parts.result f.result b) c.in_ok-within.ensures k)) c.check_inside.ensures

pub returns-in_err-prems : goal.returns-in_err-prems
returns-in_err-prems c = λ at.
    let D = c.args.decls.now in
    let S = c.args.scope.now in
    let f = c.args.fun.now in
    let parts = parts_of c.args.args.now c.args.value.now c.args.premises.now in
    let w = c.in_ok-within.within in
    let tys = c.as_slice.result.now in
    Told-stops _ _ (λ (b : Breach). PremsBreach D S w parts.premises b) (λ (b : Breach). ClauseBreach D f at parts b)
    c.elaborate_prems.result c.from_residual-in_err-prems.result c.in_err-prems.field-0.0 c.in_err-prems.was (search rules)
    (λ b k. in_premises S c.in_ok-exps.exps c.in_ok-one.one c.requires.number c.requires.scope
    (subst (λ z. AskedAs D S z IlExp exp_of c.in_ok-exps.exps) (questions_are S f parts w tys c.in_ok-within.ensures c.as_slice.ensures) c.in_ok-exps.ensures)
    (subst (λ z. ElabInside D S z parts.result f.result c.in_ok-one.one) c.in_ok-within.ensures c.in_ok-one.ensures)
    (subst (λ z. PremsBreach D S z parts.premises b) c.in_ok-within.ensures k)) c.elaborate_prems.ensures

pub returns : goal.returns
returns c = λ at.
    let D = c.args.decls.now in
    let S = c.args.scope.now in
    let f = c.args.fun.now in
    let parts = parts_of c.args.args.now c.args.value.now c.args.premises.now in
    let w = c.in_ok-within.within in
    let tys = c.as_slice.result.now in
    let xs = c.in_ok-exps.exps in
    let x = c.in_ok-one.one in
    let ys = c.in_ok-prems.prems in
    subst (ElabClause D f parts) (sym c.in_ok-clause_of.ensures) record {
      scope = S;
      number = c.requires.number;
      is_scope = c.requires.scope;
      fun_is = refl;
      variables_are = refl;
      arguments = subst (λ z. AskedAs D S z IlExp exp_of xs) (questions_are S f parts w tys c.in_ok-within.ensures c.as_slice.ensures) c.in_ok-exps.ensures;
      result_is = subst (λ z. ElabInside D S z parts.result f.result x) c.in_ok-within.ensures c.in_ok-one.ensures;
      holding = subst (λ z. ElabPrems D S z parts.premises ys) c.in_ok-within.ensures c.in_ok-prems.ensures;
    }
