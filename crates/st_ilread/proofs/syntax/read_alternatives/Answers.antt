use Rattle.std.proofs.Common.{ap, ◌∙◌, Err, arith}
use Rattle.std.proofs.lemmas.Result.{err_from_is_err_and}
use Rattle.st_iltext.specs.Definitions.{alternative_tree}
use Rattle.st_iltext.specs.Written.{alternative_written}
use Rattle.st_iltext.proofs.Rows.{so_far_start, so_far_step, so_far_end, so_far_none}
use Rattle.st_ilread.proofs.Passed.{passed}
use Rattle.st_ilread.proofs.syntax.read_alternatives.Goals as goal

pub returns-in_err-read_alternative : goal.returns-in_err-read_alternative
returns-in_err-read_alternative c =
    let failed = err_from_is_err_and c.from_residual.result c.from_residual.ensures.1 in
    passed _ _ _ _ _ _ c.in_err-read_alternative.ensures (λ n. so_far_none alternative_tree alternative_written c.args.trees.now c.loop-tree.tree-index c.tree-item.result (omega arith) c.tree-item.is n) (failed.1 ∙ ap Err failed.2)

pub loop-tree-init : goal.loop-tree-init
loop-tree-init c = so_far_start alternative_tree alternative_written _ _ c.new-alternatives.ensures

pub loop-tree-preserved : goal.loop-tree-preserved
loop-tree-preserved c =
    so_far_step alternative_tree alternative_written _ _ _ _ _ _ c.loop-tree.invariant (omega arith) c.tree-item.is c.in_ok-read_alternative.ensures c.in_ok-push.ensures.ok

pub returns : goal.returns
returns c = so_far_end alternative_tree alternative_written _ _ _ c.loop-tree.invariant (omega arith)
