use Rattle.std.proofs.Common.{subst}
use Rattle.st_text.specs.Trees.{trees_of}
use Rattle.st_deriv.specs.inner.Reading.{AnswersLine}
use Rattle.st_deriv.proofs.Whole.{line_answer}
use Rattle.st_deriv.proofs.read.read_line.Goals as goal

pub returns : goal.returns
returns c =
    line_answer _ _ _ c.in_ok-trees.ensures
    (subst (λ trees. AnswersLine (trees_of trees) c.read_trees.result) c.as_slice.ensures c.read_trees.ensures)
