use Rattle.std.proofs.Common.{◌∙◌, ap, sym, subst, refl, Err, Ok, All}
use Rattle.std.proofs.lemmas.Result.{err_from_is_err_and}
use Rattle.st_il.specs.declared.definition.Il.{Il}
use Rattle.st_il.specs.Definitions.{rules_in}
use Rattle.st_search.specs.Answers.{goal_of, IsAnswer}
use Rattle.st_search.specs.Searchable.{CanBeRun}
use Rattle.st_search.specs.inner.Search.{IsSolved}
use Rattle.st_search.proofs.Searched.{can_be_searched}
use Rattle.st_search.proofs.Solved.{answer_found, answer_fault}
use Rattle.st_search.proofs.search.outputs_in.Goals as goal

pub returns-in_err-found : goal.returns-in_err-found
returns-in_err-found c =
    let il = c.args.language.now in
    let asked = goal_of c.args.relation.now c.args.input.now in
    let failed = err_from_is_err_and c.from_residual.result c.from_residual.ensures.1 in
    let can = can_be_searched il (subst (λ (z : Il). All (CanBeRun z) (rules_in z.defs)) c.language.view_is c.language.invariant.searchable.rules) c.args.relation.now c.requires.relation c.requires.plain in
    subst (IsAnswer il c.args.depth asked) (sym (failed.1 ∙ ap Err failed.2))
    (answer_fault il c.args.depth asked c.in_err-found.field-0.0 can c.requires.input (subst (λ (z : Il). IsSolved z c.args.depth c.args.depth asked (Err c.in_err-found.field-0.0)) c.language.view_is c.in_err-found.ensures.solved))

pub returns : goal.returns
returns c =
    let il = c.args.language.now in
    let asked = goal_of c.args.relation.now c.args.input.now in
    let can = can_be_searched il (subst (λ (z : Il). All (CanBeRun z) (rules_in z.defs)) c.language.view_is c.language.invariant.searchable.rules) c.args.relation.now c.requires.relation c.requires.plain in
    answer_found il c.args.depth asked c.in_ok-found.found (record { found = c.in_ok-found.found.items }) can (subst (λ (z : Il). IsSolved z c.args.depth c.args.depth asked (Ok c.in_ok-found.found)) c.language.view_is c.in_ok-found.ensures.solved) c.in_ok-found.ensures.sorted refl
