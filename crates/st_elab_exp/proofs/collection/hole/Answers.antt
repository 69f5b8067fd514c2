use Rattle.std.proofs.Common.{ap}
use Rattle.st_notation.specs.Fitted.{plain}
use Rattle.st_elab_table.specs.Collections.{hole_row}
use Rattle.st_elab_rows.proofs.Builds.{leading_is, pass_reach}
use Rattle.st_elab_exp.proofs.collection.hole.Goals as goal

pub returns-in-One : goal.returns-in-One
returns-in-One g c = leading_is _ _ _ _ _ _ (ap (λ z. hole_row c.args.context.now.within.now c.args.at c.args.passed.now (plain z) c.args.ty.now) c.in-One.is) (pass_reach _ _ _ _ _ c.asked_at.ensures)

pub returns-in-Run : goal.returns-in-Run
returns-in-Run g c = leading_is _ _ _ _ _ _ (ap (λ z. hole_row c.args.context.now.within.now c.args.at c.args.passed.now (plain z) c.args.ty.now) c.in-Run.is) c.run_row.ensures

pub returns-in-Missing : goal.returns-in-Missing
returns-in-Missing g c = leading_is _ _ _ _ _ _ (ap (λ z. hole_row c.args.context.now.within.now c.args.at c.args.passed.now (plain z) c.args.ty.now) c.in-Missing.is) c.absent.ensures
