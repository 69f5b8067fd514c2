use Rattle.std.proofs.Common.{ap, ◌∙◌, Err, arith}
use Rattle.std.proofs.lemmas.Result.{err_from_is_err_and}
use Rattle.st_iltext.specs.Expressions.{prem_tree}
use Rattle.st_iltext.specs.Written.{prem_written}
use Rattle.st_iltext.proofs.Rows.{so_far_start, so_far_step, so_far_end, so_far_none}
use Rattle.st_ilread.proofs.Passed.{passed}
use Rattle.st_ilread.proofs.premise.read_prems.Goals as goal

pub returns-in_err-read_prem : goal.returns-in_err-read_prem
returns-in_err-read_prem c =
    let failed = err_from_is_err_and c.from_residual.result c.from_residual.ensures.1 in
    passed _ _ _ _ _ _ c.in_err-read_prem.ensures (λ n. so_far_none prem_tree prem_written c.args.trees.now c.loop-tree.tree-index c.tree-item.result (omega arith) c.tree-item.is n) (failed.1 ∙ ap Err failed.2)

pub loop-tree-init : goal.loop-tree-init
loop-tree-init c = so_far_start prem_tree prem_written _ _ c.new-premises.ensures

pub loop-tree-preserved : goal.loop-tree-preserved
loop-tree-preserved c =
    so_far_step prem_tree prem_written _ _ _ _ _ _ c.loop-tree.invariant (omega arith) c.tree-item.is c.in_ok-read_prem.ensures c.in_ok-push.ensures.ok

pub returns : goal.returns
returns c = so_far_end prem_tree prem_written _ _ _ c.loop-tree.invariant (omega arith)
