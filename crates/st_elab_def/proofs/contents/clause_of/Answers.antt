use Rattle.std.proofs.Common.{◌≡◌, rules, Some, [], ◌∷◌}
use Rattle.st_elab_table.specs.Inferred.{fun_named}
use Rattle.st_elab_table.specs.Questions.{Breach}
use Rattle.st_elab_rows.proofs.Builds.{Told-stops}
use Rattle.st_elab_table.specs.Clauses.{parts_of, ClauseBreach}
use Rattle.st_elab_def.specs.Phases.{Placed, clause, on_clause}
use Rattle.st_elab_def.specs.inner.Heads.{on_function}
use Rattle.st_elab_def.specs.inner.Walk.{FirstBreachAt}
use Rattle.st_elab_def.proofs.HasHead.{clause_breach, makes_clause}
use Rattle.st_elab_def.proofs.contents.clause_of.Goals as goal

pub returns-in_err-found : goal.returns-in_err-found
returns-in_err-found c = λ finds.
    let D = c.args.decls.now in
    let parts = parts_of c.args.args.now c.args.value.now c.args.premises.now in
    let asked : Placed = record { at = c.args.place; asked = clause c.args.name.now parts } in
    Told-stops _ _ (λ (b : Breach). FirstBreachAt D (on_function c.args.place c.args.name.now (asked ∷ [])) b)
    (λ (b : Breach). FirstBreachAt D (on_clause c.args.place c.args.name.now parts) b)
    c.function.result c.from_residual.result c.in_err-found.field-0.0 c.in_err-found.was (search rules) (λ b k. k)
    (c.function.ensures D (asked ∷ []) finds)

pub returns-in_err-clause : goal.returns-in_err-clause
returns-in_err-clause c = λ finds.
    let D = c.args.decls.now in
    let parts = parts_of c.args.args.now c.args.value.now c.args.premises.now in
    let is : fun_named D.funs c.args.name.now ≡ Some c.in_ok-found.found.now = c.in_ok-found.ensures D [] finds in
    Told-stops _ _ (λ (b : Breach). ClauseBreach D c.in_ok-found.found.now c.args.place parts b)
    (λ (b : Breach). FirstBreachAt D (on_clause c.args.place c.args.name.now parts) b)
    c.elaborate_clause.result c.from_residual-in_err-clause.result c.in_err-clause.field-0.0 c.in_err-clause.was (search rules)
    (λ b k. clause_breach D c.args.place c.args.name.now parts c.in_ok-found.found.now b is k)
    c.elaborate_clause.ensures.told

pub returns : goal.returns
returns c = λ finds.
    let D = c.args.decls.now in
    let parts = parts_of c.args.args.now c.args.value.now c.args.premises.now in
    let is : fun_named D.funs c.args.name.now ≡ Some c.in_ok-found.found.now = c.in_ok-found.ensures D [] finds in
    makes_clause D c.args.place c.args.name.now parts c.in_ok-found.found.now c.in_ok-clause.clause is c.in_ok-clause.ensures.told
