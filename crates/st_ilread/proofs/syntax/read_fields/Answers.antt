use Rattle.std.proofs.Common.{ap, ◌∙◌, Err, arith}
use Rattle.std.proofs.lemmas.Result.{err_from_is_err_and}
use Rattle.st_iltext.specs.Definitions.{field_tree}
use Rattle.st_iltext.specs.Written.{field_written}
use Rattle.st_iltext.proofs.Rows.{so_far_start, so_far_step, so_far_end, so_far_none}
use Rattle.st_ilread.proofs.Passed.{passed}
use Rattle.st_ilread.proofs.syntax.read_fields.Goals as goal

pub returns-in_err-read_field : goal.returns-in_err-read_field
returns-in_err-read_field c =
    let failed = err_from_is_err_and c.from_residual.result c.from_residual.ensures.1 in
    passed _ _ _ _ _ _ c.in_err-read_field.ensures (λ n. so_far_none field_tree field_written c.args.trees.now c.loop-tree.tree-index c.tree-item.result (omega arith) c.tree-item.is n) (failed.1 ∙ ap Err failed.2)

pub loop-tree-init : goal.loop-tree-init
loop-tree-init c = so_far_start field_tree field_written _ _ c.new-fields.ensures

pub loop-tree-preserved : goal.loop-tree-preserved
loop-tree-preserved c =
    so_far_step field_tree field_written _ _ _ _ _ _ c.loop-tree.invariant (omega arith) c.tree-item.is c.in_ok-read_field.ensures c.in_ok-push.ensures.ok

pub returns : goal.returns
returns c = so_far_end field_tree field_written _ _ _ c.loop-tree.invariant (omega arith)
