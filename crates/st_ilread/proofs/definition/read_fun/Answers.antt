use Rattle.std.proofs.Common.{refl, sym, ap, ◌∙◌, Err}
use Rattle.std.proofs.lemmas.Result.{err_from_is_err_and}
use Rattle.st_iltext.proofs.Rows.{first_of, rest_of}
use Rattle.st_ilread.proofs.Passed.{passed, three_parts}
use Rattle.st_ilread.proofs.DefinitionTrees.{fun_none, fun_is}
use Rattle.st_ilread.proofs.definition.read_fun.Goals as goal

pub returns-in_default : goal.returns-in_default
returns-in_default c = (refl, fun_none _ (λ f us u p q e. c.in_default.ensures _ _ _ e))

pub returns-in_err-name : goal.returns-in_err-name
returns-in_err-name c =
    let failed = err_from_is_err_and c.from_residual.result c.from_residual.ensures.1 in
    passed _ _ _ _ _ _ c.in_err-name.ensures (λ n. fun_none _ (λ f us u p q e. n.never f refl (first_of (sym c.in-Some.ensures ∙ e)))) (failed.1 ∙ ap Err failed.2)

pub returns-in_err-params : goal.returns-in_err-params
returns-in_err-params c =
    let failed = err_from_is_err_and c.from_residual-in_err-params.result c.from_residual-in_err-params.ensures.1 in
    passed _ _ _ _ _ _ c.in_err-params.ensures (λ n. fun_none _ (λ f us u p q e. n.never us p (first_of (rest_of (sym c.in-Some.ensures ∙ e))))) (failed.1 ∙ ap Err failed.2)

pub returns-in_err-outcome : goal.returns-in_err-outcome
returns-in_err-outcome c =
    let failed = err_from_is_err_and c.from_residual-in_err-outcome.result c.from_residual-in_err-outcome.ensures.1 in
    passed _ _ _ _ _ _ c.in_err-outcome.ensures (λ n. fun_none _ (λ f us u p q e. n.never u q (first_of (rest_of (rest_of (sym c.in-Some.ensures ∙ e)))))) (failed.1 ∙ ap Err failed.2)

pub returns : goal.returns
returns c = fun_is _ _ _ _ c.in_ok-params.ensures.fits c.in_ok-outcome.ensures.fits (three_parts c.in-Some.ensures c.in_ok-name.ensures.is c.in_ok-params.ensures.is c.in_ok-outcome.ensures.is)
