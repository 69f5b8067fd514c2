use Rattle.std.proofs.Common.{refl, sym, ap, ◌∙◌, Err}
use Rattle.std.proofs.lemmas.Result.{err_from_is_err_and}
use Rattle.st_iltext.proofs.Rows.{first_of, rest_of}
use Rattle.st_ilread.proofs.Passed.{passed, part_and}
use Rattle.st_ilread.proofs.BodyTrees.{case_none, case_is}
use Rattle.st_ilread.proofs.syntax.read_case.Goals as goal

pub returns-in_default : goal.returns-in_default
returns-in_default c = (refl, case_none _ (λ tag us p e. c.in_default.ensures _ _ e))

pub returns-in_err-tag : goal.returns-in_err-tag
returns-in_err-tag c =
    let failed = err_from_is_err_and c.from_residual.result c.from_residual.ensures.1 in
    passed _ _ _ _ _ _ c.in_err-tag.ensures (λ n. case_none _ (λ tag us p e. n.never tag refl (first_of (sym c.in-Some.ensures ∙ e)))) (failed.1 ∙ ap Err failed.2)

pub returns-in_err-operands : goal.returns-in_err-operands
returns-in_err-operands c =
    let failed = err_from_is_err_and c.from_residual-in_err-operands.result c.from_residual-in_err-operands.ensures.1 in
    passed _ _ _ _ _ _ c.in_err-operands.ensures (λ n. case_none _ (λ tag us p e. n.never us p (rest_of (sym c.in-Some.ensures ∙ e)))) (failed.1 ∙ ap Err failed.2)

pub returns : goal.returns
returns c = case_is _ _ _ c.in_ok-operands.ensures.fit (part_and c.in-Some.ensures c.in_ok-tag.ensures.is c.in_ok-operands.ensures.are)
