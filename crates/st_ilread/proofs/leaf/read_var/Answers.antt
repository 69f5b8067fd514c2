use Rattle.std.proofs.Common.{refl, sym, ap, ◌∙◌, Err}
use Rattle.std.proofs.lemmas.Result.{err_from_is_err_and}
use Rattle.st_iltext.proofs.Rows.{first_of}
use Rattle.st_ilread.proofs.Passed.{passed, one_part}
use Rattle.st_ilread.proofs.ExpTrees.{var_none, var_is}
use Rattle.st_ilread.proofs.leaf.read_var.Goals as goal

pub returns-in_default : goal.returns-in_default
returns-in_default c = (refl, var_none _ (λ x e. c.in_default.ensures _ e))

pub returns-in_err-read_name : goal.returns-in_err-read_name
returns-in_err-read_name c =
    let failed = err_from_is_err_and c.from_residual.result c.from_residual.ensures.1 in
    passed _ _ _ _ _ _ c.in_err-read_name.ensures (λ n. var_none _ (λ x e. n.never x refl (first_of (sym c.in-Some.ensures ∙ e)))) (failed.1 ∙ ap Err failed.2)

pub returns : goal.returns
returns c = var_is _ _ (one_part c.in-Some.ensures c.in_ok-read_name.ensures.is)
