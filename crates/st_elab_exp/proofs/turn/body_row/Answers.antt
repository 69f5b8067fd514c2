use Rattle.std.proofs.Common.{rules, subst}
use Rattle.st_elab_table.specs.Questions.{Asks}
use Rattle.st_elab_table.specs.Steps.{asked}
use Rattle.st_elab_rows.specs.Asking.{Meets, made_by}
use Rattle.st_elab_rows.proofs.Builds.{leading_by, reaches_stops}
use Rattle.st_elab_exp.proofs.Turning.{body_leads}
use Rattle.st_elab_exp.proofs.turn.body_row.Goals as goal

pub returns-in_err-one : goal.returns-in_err-one
returns-in_err-one g c =
    reaches_stops _ _ _ _ _ _ c.asked_inside.result c.from_residual-in_err-one.result c.in_err-one.field-0.0 c.in_err-one.was (search rules)
    (subst (λ z. Meets c.args.context.now (Asks (asked z c.args.body.now c.args.element.now)) c.asked_inside.result) c.in_ok-inner.ensures c.asked_inside.ensures)

pub returns : goal.returns
returns g c =
    let x = c.args.context.now in
    leading_by _ _ _ _ _ _ (λ a h. body_leads x.decls.now x.scope.now x.within.now c.in_ok-inner.inner c.args.body.now c.args.count.now c.args.element.now c.args.ty.now _ (made_by c.in_ok-one.one) a
    c.in_ok-inner.ensures c.in_ok-ty.ensures c.in_ok-one.ensures h) c.iteration.ensures
