use Rattle.std.proofs.Common.{rules, sym, ◌∙◌, ◌≡◌, subst, [], ◌∷◌, ◌++◌}
use Rattle.st_dims.specs.Mentions.{mentions_in}
use Rattle.st_elab_table.specs.Questions.{Breach}
use Rattle.st_elab_rows.specs.Told.{Told}
use Rattle.st_elab_rows.proofs.Builds.{Told-stops}
use Rattle.st_elab_table.specs.Scopes.{VariableBreach}
use Rattle.st_elab_table.specs.Clauses.{parts_of, mentions_of, HasArguments, ElabClause, ClauseBreach, in_number, at_variable}
use Rattle.st_elab_exp.specs.Erasing.{ClauseErases}
use Rattle.st_elab_exp.proofs.Outcomes.{told_given, told_refused}
use Rattle.st_elab_exp.proofs.Erasing.{clause_erases, told_ok}
use Rattle.st_elab_exp.proofs.Defining.{clause_one}
use Rattle.st_elab_exp.proofs.clause.elaborate_clause.Goals as goal

pub returns-then-len-clause-told : goal.returns-then-len-clause-told
returns-then-len-clause-told c = in_number (λ n. c.if-len.true (c.len.ensures ∙ n ∙ sym c.len-2.ensures))

pub returns-in_err-scope : goal.returns-in_err-scope
returns-in_err-scope c =
    let D = c.args.decls.now in
    let f = c.args.fun.now in
    let at = c.args.at in
    let parts = parts_of c.args.args.now c.args.value.now c.args.premises.now in
    let number : HasArguments f parts = sym c.len.ensures ∙ c.if-len.false ∙ c.len-2.ensures in
    let mentions : c.as_slice-3.result.now ≡ mentions_of parts = c.as_slice-3.ensures.value ∙ c.in_ok-mentions.ensures
    ∙ (λ i. mentions_in (c.as_slice.ensures i ++ parts.result ∷ []) (c.as_slice-2.ensures i)) in
    let told : Told (ElabClause D f parts) (ClauseBreach D f at parts) c.from_residual-in_err-scope.result =
    Told-stops _ _ (λ (b : Breach). VariableBreach D c.as_slice-3.result.now b) (ClauseBreach D f at parts)
    c.scope_of.result c.from_residual-in_err-scope.result c.in_err-scope.field-0.0 c.in_err-scope.was (search rules)
    (λ b k. at_variable number (subst (λ z. VariableBreach D z b) mentions k)) c.scope_of.ensures in
    record {
      told = told;
      gives = λ clause h. told_given (ElabClause D f parts) (ClauseBreach D f at parts) _ clause (clause_one D f at parts) told h;
      refuses = λ b h. told_refused (ElabClause D f parts) (ClauseBreach D f at parts) _ b (clause_one D f at parts) told h;
      erased = λ il declares. told_ok (ElabClause D f parts) (ClauseErases il f parts) (ClauseBreach D f at parts) _ (λ clause h. clause_erases il D declares f parts clause h) told;
    }

pub returns : goal.returns
returns c =
    let D = c.args.decls.now in
    let f = c.args.fun.now in
    let at = c.args.at in
    let e = c.args.value.now in
    let parts = parts_of c.args.args.now e c.args.premises.now in
    let taken = c.as_slice-5.result.now in
    let told : Told (ElabClause D f parts) (ClauseBreach D f at parts) c.clause_in.result =
    subst (λ z. Told (ElabClause D f (parts_of c.args.args.now e z)) (ClauseBreach D f at (parts_of c.args.args.now e z)) c.clause_in.result) c.as_slice-5.ensures
    (subst (λ z. Told (ElabClause D f (parts_of z e taken)) (ClauseBreach D f at (parts_of z e taken)) c.clause_in.result) c.as_slice-4.ensures (c.clause_in.ensures at)) in
    record {
      told = told;
      gives = λ clause h. told_given (ElabClause D f parts) (ClauseBreach D f at parts) _ clause (clause_one D f at parts) told h;
      refuses = λ b h. told_refused (ElabClause D f parts) (ClauseBreach D f at parts) _ b (clause_one D f at parts) told h;
      erased = λ il declares. told_ok (ElabClause D f parts) (ClauseErases il f parts) (ClauseBreach D f at parts) _ (λ clause h. clause_erases il D declares f parts clause h) told;
    }
