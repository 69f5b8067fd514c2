use Rattle.std.proofs.Common.{refl, sym, ap, ◌∙◌, Err}
use Rattle.std.proofs.lemmas.Result.{err_from_is_err_and}
use Rattle.st_iltext.specs.Written.{are_in_order}
use Rattle.st_ilread.proofs.Passed.{passed}
use Rattle.st_ilread.proofs.NameOrder.{names_none, names_no_list, names_unordered, names_is}
use Rattle.st_ilread.proofs.name.read_names.Goals as goal

pub returns-in_default : goal.returns-in_default
returns-in_default c = (refl, names_no_list _ c.in_default.ensures)

pub returns-in_err-names : goal.returns-in_err-names
returns-in_err-names c =
    let failed = err_from_is_err_and c.from_residual.result c.from_residual.ensures.1 in
    passed _ _ _ _ _ _ c.in_err-names.ensures (λ n. names_none _ _ c.in-Some.ensures n) (failed.1 ∙ ap Err failed.2)

pub returns-then-not-are_in_order : goal.returns-then-not-are_in_order
returns-then-not-are_in_order c = (refl, names_unordered _ _ _ c.in-Some.ensures c.in_ok-names.ensures (sym (ap are_in_order c.as_slice.ensures) ∙ sym c.are_in_order.ensures ∙ c.if-not-are_in_order.true))

pub returns : goal.returns
returns c = names_is _ _ _ c.in-Some.ensures c.in_ok-names.ensures (sym (ap are_in_order c.as_slice.ensures) ∙ sym c.are_in_order.ensures ∙ c.if-not-are_in_order.false)
