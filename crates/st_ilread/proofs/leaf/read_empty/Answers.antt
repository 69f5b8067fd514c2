use Rattle.std.proofs.Common.{refl, sym, ap, ◌∙◌, Err}
use Rattle.std.proofs.lemmas.Result.{err_from_is_err_and}
use Rattle.st_iltext.proofs.Rows.{first_of}
use Rattle.st_ilread.proofs.Passed.{passed, one_part}
use Rattle.st_ilread.proofs.ExpTrees.{empty_none, empty_is}
use Rattle.st_ilread.proofs.leaf.read_empty.Goals as goal

pub returns-in_default : goal.returns-in_default
returns-in_default c = (refl, empty_none _ (λ t p e. c.in_default.ensures _ e))

pub returns-in_err-read_ty : goal.returns-in_err-read_ty
returns-in_err-read_ty c =
    let failed = err_from_is_err_and c.from_residual.result c.from_residual.ensures.1 in
    passed _ _ _ _ _ _ c.in_err-read_ty.ensures (λ n. empty_none _ (λ t p e. n.never t p (first_of (sym c.in-Some.ensures ∙ e)))) (failed.1 ∙ ap Err failed.2)

pub returns : goal.returns
returns c = empty_is _ _ c.in_ok-read_ty.ensures.fits (one_part c.in-Some.ensures c.in_ok-read_ty.ensures.is)
