use Rattle.std.proofs.Common.{refl, sym, ap, ◌∙◌, Err}
use Rattle.std.proofs.lemmas.Result.{err_from_is_err_and}
use Rattle.st_iltext.proofs.Rows.{first_of, rest_of}
use Rattle.st_ilread.proofs.Passed.{passed, two_parts}
use Rattle.st_ilread.proofs.DefinitionTrees.{syntax_none, syntax_is}
use Rattle.st_ilread.proofs.definition.read_syntax.Goals as goal

pub returns-in_default : goal.returns-in_default
returns-in_default c = (refl, syntax_none _ (λ x b p e. c.in_default.ensures _ _ e))

pub returns-in_err-name : goal.returns-in_err-name
returns-in_err-name c =
    let failed = err_from_is_err_and c.from_residual.result c.from_residual.ensures.1 in
    passed _ _ _ _ _ _ c.in_err-name.ensures (λ n. syntax_none _ (λ x b p e. n.never x refl (first_of (sym c.in-Some.ensures ∙ e)))) (failed.1 ∙ ap Err failed.2)

pub returns-in_err-body : goal.returns-in_err-body
returns-in_err-body c =
    let failed = err_from_is_err_and c.from_residual-in_err-body.result c.from_residual-in_err-body.ensures.1 in
    passed _ _ _ _ _ _ c.in_err-body.ensures (λ n. syntax_none _ (λ x b p e. n.never b p (first_of (rest_of (sym c.in-Some.ensures ∙ e))))) (failed.1 ∙ ap Err failed.2)

pub returns : goal.returns
returns c = syntax_is _ _ _ c.in_ok-body.ensures.fits (two_parts c.in-Some.ensures c.in_ok-name.ensures.is c.in_ok-body.ensures.is)
