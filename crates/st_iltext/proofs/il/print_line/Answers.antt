use Rattle.std.proofs.Common.{◌++◌, ◌∷◌, [], sym, ap}
use Rattle.st_text.specs.Text.{text}
use Rattle.st_text.proofs.CutOff.{OnErr-any, cut_off_first}
use Rattle.st_iltext.proofs.il.print_line.Goals as goal

pub returns-in_err-print_tree-clause-err : goal.returns-in_err-print_tree-clause-err
returns-in_err-print_tree-clause-err c =
    OnErr-any _ _ (cut_off_first _ _ _ _ (10 ∷ []) (ap (λ tree. text tree ++ 10 ∷ []) (sym c.in_ok-tree.ensures)) c.in_err-print_tree.ensures.err)
