use Rattle.std.proofs.Common.{sym, subst, ◌+◌, take}
use Rattle.st_elab_table.specs.Choice.{HaveShapes}
use Rattle.st_elab_rows.proofs.Choosing.{shapes_next}
use Rattle.st_elab_rows.proofs.choice.shapes_of.Goals as goal

pub loop-ty-preserved : goal.loop-ty-preserved
loop-ty-preserved c =
    subst (HaveShapes c.args.types.now (take (c.loop-ty.ty-index + 1) c.args.tys.now)) (sym c.in_ok-push.ensures.ok)
    (shapes_next c.args.types.now c.args.tys.now c.loop-ty.ty-index c.ty-item.result c.loop-ty.shapes c.shape_of.result c.loop-ty-test.true c.ty-item.is c.loop-ty.invariant c.shape_of.ensures)
