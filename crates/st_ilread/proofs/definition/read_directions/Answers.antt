use Rattle.std.proofs.Common.{ap, ◌∙◌, Err, arith}
use Rattle.std.proofs.lemmas.Result.{err_from_is_err_and}
use Rattle.st_iltext.specs.Definitions.{mode_word}
use Rattle.st_ilread.specs.inner.Parts.{any}
use Rattle.st_iltext.proofs.Rows.{so_far_start, so_far_step, so_far_end, so_far_none}
use Rattle.st_ilread.proofs.Passed.{passed}
use Rattle.st_ilread.proofs.definition.read_directions.Goals as goal

pub returns-in_err-read_direction : goal.returns-in_err-read_direction
returns-in_err-read_direction c =
    let failed = err_from_is_err_and c.from_residual.result c.from_residual.ensures.1 in
    passed _ _ _ _ _ _ c.in_err-read_direction.ensures (λ n. so_far_none mode_word any c.args.trees.now c.loop-tree.tree-index c.tree-item.result (omega arith) c.tree-item.is n) (failed.1 ∙ ap Err failed.2)

pub loop-tree-init : goal.loop-tree-init
loop-tree-init c = so_far_start mode_word any _ _ c.new-mode.ensures

pub loop-tree-preserved : goal.loop-tree-preserved
loop-tree-preserved c =
    so_far_step mode_word any _ _ _ _ _ _ c.loop-tree.invariant (omega arith) c.tree-item.is c.in_ok-read_direction.ensures c.in_ok-push.ensures.ok

pub returns : goal.returns
returns c = so_far_end mode_word any _ _ _ c.loop-tree.invariant (omega arith)
