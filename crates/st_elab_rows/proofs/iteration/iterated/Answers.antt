use Rattle.std.proofs.Common.{rules, sym, ◌∙◌}
use Rattle.st_elab_rows.proofs.Iterated.{named, not_named}
use Rattle.st_elab_rows.proofs.iteration.iterated.Goals.{then-is_iterated+in_ok-copy+in_ok-push, else-is_iterated}
use Rattle.st_elab_rows.proofs.iteration.iterated.Goals as goal

pub loop-variable-preserved : goal.loop-variable-preserved
loop-variable-preserved g c =
    elim c.if-is_iterated.branch [
      | then-is_iterated+in_ok-copy+in_ok-push w ↦
          search (rules, named _ c.args.inner.now.indices (g.P.HasVariables.occurs c.args.body.now) c.as_slice-variable-items.result.now c.loop-variable.variable-index c.variable-item.result c.loop-variable-test.true c.variable-item.is (sym c.is_iterated.ensures ∙ w.if-is_iterated.true))
      | else-is_iterated w ↦
          search (rules, not_named _ c.args.inner.now.indices (g.P.HasVariables.occurs c.args.body.now) c.as_slice-variable-items.result.now c.loop-variable.variable-index c.variable-item.result c.loop-variable-test.true c.variable-item.is (sym c.is_iterated.ensures ∙ w.if-is_iterated.false))
    ]
