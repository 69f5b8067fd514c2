use Rattle.std.proofs.Common.{refl, sym, ap, ◌∙◌, Err}
use Rattle.std.proofs.lemmas.Result.{err_from_is_err_and}
use Rattle.st_iltext.proofs.Rows.{first_of, rest_of, parts_of}
use Rattle.st_ilread.proofs.Passed.{passed, two_parts}
use Rattle.st_ilread.proofs.BodyTrees.{field_none, field_is}
use Rattle.st_ilread.proofs.syntax.read_field.Goals as goal

pub returns-in_default : goal.returns-in_default
returns-in_default c = (refl, field_none _ (λ x u p e. c.in_default.ensures _ e))

pub returns-in_default-two : goal.returns-in_default-two
returns-in_default-two c = (refl, field_none _ (λ x u p e. c.in_default-two.ensures _ _ (parts_of (sym c.in-Some.ensures ∙ e))))

pub returns-in_err-name : goal.returns-in_err-name
returns-in_err-name c =
    let failed = err_from_is_err_and c.from_residual.result c.from_residual.ensures.1 in
    passed _ _ _ _ _ _ c.in_err-name.ensures (λ n. field_none _ (λ x u p e. n.never x refl (first_of (sym c.in-Some-two.ensures ∙ parts_of (sym c.in-Some.ensures ∙ e))))) (failed.1 ∙ ap Err failed.2)

pub returns-in_err-ty : goal.returns-in_err-ty
returns-in_err-ty c =
    let failed = err_from_is_err_and c.from_residual-in_err-ty.result c.from_residual-in_err-ty.ensures.1 in
    passed _ _ _ _ _ _ c.in_err-ty.ensures (λ n. field_none _ (λ x u p e. n.never u p (first_of (rest_of (sym c.in-Some-two.ensures ∙ parts_of (sym c.in-Some.ensures ∙ e)))))) (failed.1 ∙ ap Err failed.2)

pub returns : goal.returns
returns c = field_is _ _ _ _ c.in_ok-ty.ensures.fits c.in-Some.ensures (two_parts c.in-Some-two.ensures c.in_ok-name.ensures.is c.in_ok-ty.ensures.is)
