use Rattle.std.proofs.Common.{[], ◌∷◌, refl, arith}
use Rattle.st_text.specs.Text.{text}
use Rattle.st_text.specs.Trees.{tree_of}
use Rattle.st_text.proofs.CutOff.{OnErr-any, cut_off_first, cut_off_rest, row-first, behind-drop, written_none, written_cut}
use Rattle.st_text.proofs.print.+print.Goals as goal

pub print_row-returns-in_err-print_tree-clause-err :
    goal.print_row-returns-in_err-print_tree-clause-err
print_row-returns-in_err-print_tree-clause-err t c =
    OnErr-any _ _ (cut_off_first _ _ _ _ _ (row-first _ _ _ c.in-Some.ensures.cases.0) c.in_err-print_tree.ensures.err)

pub print_row-returns-in_err-push-clause-err : goal.print_row-returns-in_err-push-clause-err
print_row-returns-in_err-push-clause-err t c =
    OnErr-any _ _ (cut_off_rest _ _ _ _ _ _ c.in_ok-print_tree.ensures.ok (row-first _ _ _ c.in-Some.ensures.cases.0) (written_none _ _ _ _ _ c.loop-tree.invariant c.in_err-push.ensures.items))

pub print_row-returns-in_err-print_tree-2-clause-err :
    goal.print_row-returns-in_err-print_tree-2-clause-err
print_row-returns-in_err-print_tree-2-clause-err t c =
    let here = cut_off_rest _ _ _ (32 ∷ text (tree_of c.tree-item.result)) (32 ∷ []) _ c.in_ok-push.ensures.items refl c.in_err-print_tree-2.ensures.err in
    let next = behind-drop c.in-Some.others.now c.loop-tree.tree-index _ (omega arith) c.tree-item.is in
    OnErr-any _ _ (cut_off_rest _ _ _ _ _ _ c.in_ok-print_tree.ensures.ok (row-first _ _ _ c.in-Some.ensures.cases.0) (written_cut _ _ _ _ _ _ _ c.loop-tree.invariant next here))
