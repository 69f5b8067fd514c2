use Rattle.std.proofs.Common.{refl, sym, ap, ◌∙◌, Err}
use Rattle.std.proofs.lemmas.Result.{err_from_is_err_and}
use Rattle.st_iltext.proofs.Rows.{first_of, rest_of}
use Rattle.st_ilread.proofs.Passed.{passed, two_and}
use Rattle.st_ilread.proofs.DefinitionTrees.{clause_none, clause_is}
use Rattle.st_ilread.proofs.definition.read_clause.Goals as goal

pub returns-in_default : goal.returns-in_default
returns-in_default c = (refl, clause_none _ (λ f vs es x ps p q r s e. c.in_default.ensures _ _ _ e))

pub returns-in_default-behind_two : goal.returns-in_default-behind_two
returns-in_default-behind_two c = (refl, clause_none _ (λ f vs es x ps p q r s e. c.in_default-behind_two.ensures _ _ _ (rest_of (rest_of (sym c.in-Some.ensures ∙ e)))))

pub returns-in_err-fun : goal.returns-in_err-fun
returns-in_err-fun c =
    let failed = err_from_is_err_and c.from_residual.result c.from_residual.ensures.1 in
    passed _ _ _ _ _ _ c.in_err-fun.ensures (λ n. clause_none _ (λ f vs es x ps p q r s e. n.never f refl (first_of (sym c.in-Some.ensures ∙ e)))) (failed.1 ∙ ap Err failed.2)

pub returns-in_err-variables : goal.returns-in_err-variables
returns-in_err-variables c =
    let failed = err_from_is_err_and c.from_residual-in_err-variables.result c.from_residual-in_err-variables.ensures.1 in
    passed _ _ _ _ _ _ c.in_err-variables.ensures (λ n. clause_none _ (λ f vs es x ps p q r s e. n.never vs p (first_of (rest_of (sym c.in-Some.ensures ∙ e))))) (failed.1 ∙ ap Err failed.2)

pub returns-in_err-args : goal.returns-in_err-args
returns-in_err-args c =
    let failed = err_from_is_err_and c.from_residual-in_err-args.result c.from_residual-in_err-args.ensures.1 in
    passed _ _ _ _ _ _ c.in_err-args.ensures (λ n. clause_none _ (λ f vs es x ps p q r s e. n.never es q (first_of (sym c.in-Some-behind_two.ensures ∙ rest_of (rest_of (sym c.in-Some.ensures ∙ e)))))) (failed.1 ∙ ap Err failed.2)

pub returns-in_err-outcome : goal.returns-in_err-outcome
returns-in_err-outcome c =
    let failed = err_from_is_err_and c.from_residual-in_err-outcome.result c.from_residual-in_err-outcome.ensures.1 in
    passed _ _ _ _ _ _ c.in_err-outcome.ensures (λ n. clause_none _ (λ f vs es x ps p q r s e. n.never x r (first_of (rest_of (sym c.in-Some-behind_two.ensures ∙ rest_of (rest_of (sym c.in-Some.ensures ∙ e))))))) (failed.1 ∙ ap Err failed.2)

pub returns-in_err-premises : goal.returns-in_err-premises
returns-in_err-premises c =
    let failed = err_from_is_err_and c.from_residual-in_err-premises.result c.from_residual-in_err-premises.ensures.1 in
    passed _ _ _ _ _ _ c.in_err-premises.ensures (λ n. clause_none _ (λ f vs es x ps p q r s e. n.never ps s (rest_of (rest_of (sym c.in-Some-behind_two.ensures ∙ rest_of (rest_of (sym c.in-Some.ensures ∙ e))))))) (failed.1 ∙ ap Err failed.2)

pub returns : goal.returns
returns c = clause_is _ _ _ _ _ _ c.in_ok-variables.ensures.fits c.in_ok-args.ensures.fits c.in_ok-outcome.ensures.fits c.in_ok-premises.ensures.fit (two_and c.in-Some.ensures c.in_ok-fun.ensures.is c.in_ok-variables.ensures.is (two_and c.in-Some-behind_two.ensures c.in_ok-args.ensures.is c.in_ok-outcome.ensures.is c.in_ok-premises.ensures.are))
