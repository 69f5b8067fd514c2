use Rattle.std.proofs.Common.{List, map, refl, sym, ap, ◌∙◌, Err}
use Rattle.std.proofs.lemmas.Result.{err_from_is_err_and}
use Rattle.st_il.specs.declared.definition.Listed.{Listed}
use Rattle.st_ilread.proofs.Passed.{passed, row_no_list}
use Rattle.st_iltext.specs.Definitions.{listed_tree}
use Rattle.st_iltext.specs.Written.{are_in_order, name_of, listed_written, variables_written}
use Rattle.st_ilread.proofs.ListedTrees.{variables_none, variables_is, variables_unordered}
use Rattle.st_ilread.proofs.variable.read_variables.Goals as goal

pub returns-in_default : goal.returns-in_default
returns-in_default c = (refl, row_no_list listed_tree listed_written variables_written _ c.in_default.ensures)

pub returns-in_err-variables : goal.returns-in_err-variables
returns-in_err-variables c =
    let failed = err_from_is_err_and c.from_residual.result c.from_residual.ensures.1 in
    passed _ _ _ _ _ _ c.in_err-variables.ensures (λ n. variables_none _ _ c.in-Some.ensures n) (failed.1 ∙ ap Err failed.2)

pub returns-then-not-are_in_order : goal.returns-then-not-are_in_order
returns-then-not-are_in_order c = (refl, variables_unordered _ _ _ c.in-Some.ensures c.in_ok-variables.ensures (sym (ap (λ (xs : List Listed). are_in_order (map name_of xs)) c.as_slice.ensures) ∙ sym c.are_in_order.ensures ∙ c.if-not-are_in_order.true))

pub returns : goal.returns
returns c = variables_is _ _ _ c.in-Some.ensures c.in_ok-variables.ensures (sym (ap (λ (xs : List Listed). are_in_order (map name_of xs)) c.as_slice.ensures) ∙ sym c.are_in_order.ensures ∙ c.if-not-are_in_order.false)
