use Rattle.std.proofs.Common.{take}
use Rattle.st_elab_table.specs.Choice.{HaveShapes}
use Rattle.st_elab_rows.proofs.choice.shapes_of.Given as goal

abbrev pub invariant-loop-ty : goal.invariant-loop-ty
invariant-loop-ty l = HaveShapes l.types (take l.ty-index l.tys) l.shapes
