use Rattle.std.proofs.Common.{refl, sym, ap, ◌∙◌, Err}
use Rattle.std.proofs.lemmas.Result.{err_from_is_err_and}
use Rattle.st_iltext.proofs.Rows.{first_of, rest_of}
use Rattle.st_ilread.proofs.Passed.{passed, two_parts}
use Rattle.st_ilread.proofs.DefinitionTrees.{var_none, var_is}
use Rattle.st_ilread.proofs.definition.read_var.Goals as goal

pub returns-in_default : goal.returns-in_default
returns-in_default c = (refl, var_none _ (λ x u p e. c.in_default.ensures _ _ e))

pub returns-in_err-name : goal.returns-in_err-name
returns-in_err-name c =
    let failed = err_from_is_err_and c.from_residual.result c.from_residual.ensures.1 in
    passed _ _ _ _ _ _ c.in_err-name.ensures (λ n. var_none _ (λ x u p e. n.never x refl (first_of (sym c.in-Some.ensures ∙ e)))) (failed.1 ∙ ap Err failed.2)

pub returns-in_err-ty : goal.returns-in_err-ty
returns-in_err-ty c =
    let failed = err_from_is_err_and c.from_residual-in_err-ty.result c.from_residual-in_err-ty.ensures.1 in
    passed _ _ _ _ _ _ c.in_err-ty.ensures (λ n. var_none _ (λ x u p e. n.never u p (first_of (rest_of (sym c.in-Some.ensures ∙ e))))) (failed.1 ∙ ap Err failed.2)

pub returns : goal.returns
returns c = var_is _ _ _ c.in_ok-ty.ensures.fits (two_parts c.in-Some.ensures c.in_ok-name.ensures.is c.in_ok-ty.ensures.is)
