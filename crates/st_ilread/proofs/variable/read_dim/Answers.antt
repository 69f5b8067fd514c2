use Rattle.std.proofs.Common.{ap, ◌∙◌, Err, arith}
use Rattle.std.proofs.lemmas.Result.{err_from_is_err_and}
use Rattle.st_iltext.specs.Definitions.{kind_word}
use Rattle.st_ilread.specs.inner.Parts.{any}
use Rattle.st_iltext.proofs.Rows.{so_far_start, so_far_step, so_far_end, so_far_none}
use Rattle.st_ilread.proofs.Passed.{passed}
use Rattle.st_ilread.proofs.variable.read_dim.Goals as goal

pub returns-in_err-read_kind : goal.returns-in_err-read_kind
returns-in_err-read_kind c =
    let failed = err_from_is_err_and c.from_residual.result c.from_residual.ensures.1 in
    passed _ _ _ _ _ _ c.in_err-read_kind.ensures (λ n. so_far_none kind_word any c.args.trees.now c.loop-tree.tree-index c.tree-item.result (omega arith) c.tree-item.is n) (failed.1 ∙ ap Err failed.2)

pub loop-tree-init : goal.loop-tree-init
loop-tree-init c = so_far_start kind_word any _ _ c.new-dim.ensures

pub loop-tree-preserved : goal.loop-tree-preserved
loop-tree-preserved c =
    so_far_step kind_word any _ _ _ _ _ _ c.loop-tree.invariant (omega arith) c.tree-item.is c.in_ok-read_kind.ensures c.in_ok-push.ensures.ok

pub returns : goal.returns
returns c = so_far_end kind_word any _ _ _ c.loop-tree.invariant (omega arith)
