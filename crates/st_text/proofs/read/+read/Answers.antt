use Rattle.std.proofs.Common.{refl, sym, ◌∙◌, ap, ◌++◌, ◌∷◌, [], ◌≡◌, false, arith, Err}
use Rattle.std.proofs.lemmas.Result.{err_from_is_err_and}
use Rattle.st_text.specs.Text.{is_word_byte}
use Rattle.st_text.proofs.Rows.{row_first, row_more, row_close, row_passed, list_answer, list_no_end, tree_no_first}
use Rattle.st_text.proofs.read.+read.Goals as goal

pub read_list-returns-then-not-ends : goal.read_list-returns-then-not-ends
read_list-returns-then-not-ends t c =
    (refl, list_no_end _ _ _ _ _ c.in_ok-trees.ensures c.in-Some.ensures (λ e. let yes = c.ends.ensures.1 e in let never = c.if-not-ends.true in cc))

pub read_list-returns : goal.read_list-returns
read_list-returns t c = list_answer _ _ _ _ _ (omega arith) c.in_ok-trees.ensures c.in-Some.ensures (c.ends.ensures.0 c.if-not-ends.false)

pub read_row_within-trees-init : goal.read_row_within-trees-init
read_row_within-trees-init t c = row_first _ _ _ _ _ c.in_ok-first.ensures (c.in_ok-push.ensures.ok ∙ ap (λ found. found ++ c.in_ok-first.first ∷ []) c.new-found.ensures)

pub read_row_within-returns-in_err-next : goal.read_row_within-returns-in_err-next
read_row_within-returns-in_err-next t c =
    let failed = err_from_is_err_and c.from_residual-in_err-next.result c.from_residual-in_err-next.ensures.1 in
    row_passed _ _ _ _ _ _ _ c.trees.invariant c.in-Some.ensures c.in_err-next.ensures (failed.1 ∙ ap Err failed.2)

pub read_row_within-trees-preserved : goal.read_row_within-trees-preserved
read_row_within-trees-preserved t c = row_more _ _ _ _ _ _ _ _ c.trees.invariant c.in-Some.ensures c.in_ok-next.ensures c.in_ok-push-2.ensures.ok

pub read_row_within-returns : goal.read_row_within-returns
read_row_within-returns t c = row_close _ _ _ _ c.trees.invariant c.in_default.ensures

pub read_within-returns-in_default-2 : goal.read_within-returns-in_default-2
read_within-returns-in_default-2 t c =
    let other : is_word_byte c.in-Some.first.now ≡ false = sym c.is_word_byte.ensures ∙ c.if-is_word_byte.false in
    (refl, tree_no_first _ _ _ _ c.in-Some.ensures.cases.0 (λ e. omega arith) (λ e. omega arith) other)
