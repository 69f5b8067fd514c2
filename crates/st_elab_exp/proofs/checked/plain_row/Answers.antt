use Rattle.std.proofs.Common.{rules, sym, refl, ◌∙◌}
use Rattle.st_elab_rows.specs.Asking.{manner}
use Rattle.st_elab_rows.proofs.Builds.{leading_by, reaches_stops, plain_inferable, plain_form}
use Rattle.st_elab_exp.proofs.checked.plain_row.Goals as goal

pub returns-in_err-given : goal.returns-in_err-given
returns-in_err-given g c =
    let x = c.args.context.now in
    let part = c.args.part.now in
    plain_inferable x.decls.now x.scope.now x.within.now part.at (manner part) part.exp.now c.args.ty.now _ _ (sym c.inferable.ensures ∙ c.if-inferable.true)
    (reaches_stops _ _ _ _ _ _ c.found_at.result c.from_residual.result c.in_err-given.field-0.0 c.in_err-given.was (search rules) c.found_at.ensures)

pub returns-then-inferable : goal.returns-then-inferable
returns-then-inferable g c =
    let x = c.args.context.now in
    let part = c.args.part.now in
    plain_inferable x.decls.now x.scope.now x.within.now part.at (manner part) part.exp.now c.args.ty.now _ _ (sym c.inferable.ensures ∙ c.if-inferable.true)
    (leading_by _ _ _ _ _ _ (λ a h. c.in_ok-given.ensures _ a h) c.fitted.ensures)

pub returns : goal.returns
returns g c =
    let x = c.args.context.now in
    let part = c.args.part.now in
    plain_form x.decls.now x.scope.now x.within.now part.at (manner part) part.exp.now c.args.ty.now c.meaning-meaning.result.now _ _ _ (sym c.inferable.ensures ∙ c.if-inferable.false)
    refl c.meaning-meaning.ensures.means c.form_row.ensures
