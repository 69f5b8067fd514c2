use Rattle.std.proofs.Common.{refl, sym, ap, ◌∙◌, Err, arith}
use Rattle.std.proofs.lemmas.Result.{err_from_is_err_and}
use Rattle.st_text.specs.Text.{depth, row_depth}
use Rattle.st_iltext.proofs.Rows.{first_of, rest_of}
use Rattle.st_ilread.proofs.Passed.{passed, read_as, three_parts}
use Rattle.st_ilread.proofs.PremTrees.{prem_none, each_none, each_is}
use Rattle.st_ilread.proofs.premise.+premise.Goals as goal

pub read_prem-read_each-requires : goal.read_prem-read_each-requires
read_prem-read_each-requires t c = (omega (arith, ap depth c.in-Some-form_parts-3.ensures), tt)

pub read_prem-returns-in-Some : goal.read_prem-returns-in-Some
read_prem-returns-in-Some t c = read_as _ _ _ _ _ c.in-Some.ensures c.read_condition.ensures

pub read_prem-returns-in-Some-form_parts : goal.read_prem-returns-in-Some-form_parts
read_prem-returns-in-Some-form_parts t c = read_as _ _ _ _ _ c.in-Some-form_parts.ensures c.read_goal.ensures

pub read_prem-returns-in-Some-form_parts-2 : goal.read_prem-returns-in-Some-form_parts-2
read_prem-returns-in-Some-form_parts-2 t c = read_as _ _ _ _ _ c.in-Some-form_parts-2.ensures c.read_otherwise.ensures

pub read_prem-returns-in-Some-form_parts-3 : goal.read_prem-returns-in-Some-form_parts-3
read_prem-returns-in-Some-form_parts-3 t c = read_as _ _ _ _ _ c.in-Some-form_parts-3.ensures c.read_each.ensures

pub read_prem-returns : goal.read_prem-returns
read_prem-returns t c = (refl, prem_none _ (λ x p e. c.in_default.ensures _ e) (λ r es p e. c.in_default-form_parts.ensures _ e) (λ e. c.in_default-form_parts-2.ensures _ e) (λ k xs q p o r e. c.in_default-form_parts-3.ensures _ e))

pub read_each-read_prem-requires : goal.read_each-read_prem-requires
read_each-read_prem-requires t c = (omega (arith, ap row_depth c.in-Some.ensures), tt)

pub read_each-returns-in_default : goal.read_each-returns-in_default
read_each-returns-in_default t c = (refl, each_none _ (λ k xs q p o r e. c.in_default.ensures _ _ _ e))

pub read_each-returns-in_err-count : goal.read_each-returns-in_err-count
read_each-returns-in_err-count t c =
    let failed = err_from_is_err_and c.from_residual.result c.from_residual.ensures.1 in
    passed _ _ _ _ _ _ c.in_err-count.ensures (λ n. each_none _ (λ k xs q p o r e. n.never k p (first_of (sym c.in-Some.ensures ∙ e)))) (failed.1 ∙ ap Err failed.2)

pub read_each-returns-in_err-names : goal.read_each-returns-in_err-names
read_each-returns-in_err-names t c =
    let failed = err_from_is_err_and c.from_residual-in_err-names.result c.from_residual-in_err-names.ensures.1 in
    passed _ _ _ _ _ _ c.in_err-names.ensures (λ n. each_none _ (λ k xs q p o r e. n.never xs o (first_of (rest_of (sym c.in-Some.ensures ∙ e))))) (failed.1 ∙ ap Err failed.2)

pub read_each-returns-in_err-inner : goal.read_each-returns-in_err-inner
read_each-returns-in_err-inner t c =
    let failed = err_from_is_err_and c.from_residual-in_err-inner.result c.from_residual-in_err-inner.ensures.1 in
    passed _ _ _ _ _ _ c.in_err-inner.ensures (λ n. each_none _ (λ k xs q p o r e. n.never q r (first_of (rest_of (rest_of (sym c.in-Some.ensures ∙ e)))))) (failed.1 ∙ ap Err failed.2)

pub read_each-returns : goal.read_each-returns
read_each-returns t c = each_is _ _ _ _ _ c.in_ok-count.ensures.fits c.in_ok-names.ensures.fits c.in_ok-inner.ensures.fits (three_parts c.in-Some.ensures c.in_ok-count.ensures.is c.in_ok-names.ensures.is c.in_ok-inner.ensures.is) c.in_ok-premise.ensures
