use Rattle.std.proofs.Common.{subst}
use Rattle.std.specs.Prelude.{IfSome}
use Rattle.st_il.specs.Template.{HasTag}
use Rattle.st_notation.specs.Fits.{FitsWhole}
use Rattle.st_notation.specs.Fitted.{Refuses}
use Rattle.st_elab_table.specs.Choice.{HaveShapes}
use Rattle.st_elab_rows.proofs.Choosing.{fills_unfit}
use Rattle.st_elab_rows.proofs.choice.fill.Goals as goal

pub returns-in-Err-NoFit : goal.returns-in-Err-NoFit
returns-in-Err-NoFit c = fills_unfit c.args.types.now c.args.case.now c.args.exp.now c.in-Some.template c.in_ok-shapes.shapes
    (subst (λ z. IfSome z (λ t. HasTag t c.args.case.now.tag)) c.in-Some.is c.in_ok-template.ensures.some)
    (subst (λ z. HaveShapes c.args.types.now z c.in_ok-shapes.shapes) c.as_slice.ensures c.in_ok-shapes.ensures)
    (subst (Refuses c.args.exp.now.at (FitsWhole c.in-Some.template c.in_ok-shapes.shapes c.args.exp.now)) c.in-Err-NoFit.field-0-is c.in-Err-NoFit.ensures.fitted).1
