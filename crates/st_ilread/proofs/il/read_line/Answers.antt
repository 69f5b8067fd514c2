use Rattle.std.proofs.Common.{ap, ◌∙◌, Err}
use Rattle.std.proofs.lemmas.Result.{err_from_is_err_and}
use Rattle.st_ilread.proofs.Passed.{passed}
use Rattle.st_ilread.proofs.IlTexts.{line_no_tree, line_read}
use Rattle.st_ilread.proofs.il.read_line.Goals as goal

pub returns-in_err-tree : goal.returns-in_err-tree
returns-in_err-tree c =
    let failed = err_from_is_err_and c.from_residual.result c.from_residual.ensures.1 in
    passed _ _ _ _ _ _ c.in_err-tree.ensures (λ n. line_no_tree _ n) (failed.1 ∙ ap Err failed.2)

pub returns : goal.returns
returns c = line_read _ _ _ c.in_ok-tree.ensures c.read_definition.ensures
