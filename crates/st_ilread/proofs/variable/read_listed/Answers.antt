use Rattle.std.proofs.Common.{refl, sym, ap, ◌∙◌, Err}
use Rattle.std.proofs.lemmas.Result.{err_from_is_err_and}
use Rattle.st_iltext.proofs.Rows.{first_of, rest_of, parts_of}
use Rattle.st_ilread.proofs.Passed.{passed, all_any, two_and}
use Rattle.st_ilread.proofs.ListedTrees.{listed_none, listed_is}
use Rattle.st_ilread.proofs.variable.read_listed.Goals as goal

pub returns-in_default : goal.returns-in_default
returns-in_default c = (refl, listed_none _ (λ x u dim p e. c.in_default.ensures _ e))

pub returns-in_default-behind_two : goal.returns-in_default-behind_two
returns-in_default-behind_two c = (refl, listed_none _ (λ x u dim p e. c.in_default-behind_two.ensures _ _ _ (parts_of (sym c.in-Some.ensures ∙ e))))

pub returns-in_err-name : goal.returns-in_err-name
returns-in_err-name c =
    let failed = err_from_is_err_and c.from_residual.result c.from_residual.ensures.1 in
    passed _ _ _ _ _ _ c.in_err-name.ensures (λ n. listed_none _ (λ x u dim p e. n.never x refl (first_of (sym c.in-Some-behind_two.ensures ∙ parts_of (sym c.in-Some.ensures ∙ e))))) (failed.1 ∙ ap Err failed.2)

pub returns-in_err-ty : goal.returns-in_err-ty
returns-in_err-ty c =
    let failed = err_from_is_err_and c.from_residual-in_err-ty.result c.from_residual-in_err-ty.ensures.1 in
    passed _ _ _ _ _ _ c.in_err-ty.ensures (λ n. listed_none _ (λ x u dim p e. n.never u p (first_of (rest_of (sym c.in-Some-behind_two.ensures ∙ parts_of (sym c.in-Some.ensures ∙ e)))))) (failed.1 ∙ ap Err failed.2)

pub returns-in_err-dim : goal.returns-in_err-dim
returns-in_err-dim c =
    let failed = err_from_is_err_and c.from_residual-in_err-dim.result c.from_residual-in_err-dim.ensures.1 in
    passed _ _ _ _ _ _ c.in_err-dim.ensures (λ n. listed_none _ (λ x u dim p e. n.never dim (all_any dim) (rest_of (rest_of (sym c.in-Some-behind_two.ensures ∙ parts_of (sym c.in-Some.ensures ∙ e)))))) (failed.1 ∙ ap Err failed.2)

pub returns : goal.returns
returns c = listed_is _ _ _ _ _ c.in_ok-ty.ensures.fits c.in-Some.ensures (two_and c.in-Some-behind_two.ensures c.in_ok-name.ensures.is c.in_ok-ty.ensures.is c.in_ok-dim.ensures.are)
