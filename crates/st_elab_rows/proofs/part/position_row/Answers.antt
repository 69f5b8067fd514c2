use Rattle.std.proofs.Common.{rules}
use Rattle.st_elab_rows.proofs.Builds.{leading_by, reaches_stops, gives_made}
use Rattle.st_elab_rows.proofs.part.position_row.Goals as goal

pub returns-in_err-element : goal.returns-in_err-element
returns-in_err-element g c = leading_by _ _ _ _ _ _ (λ a h. c.in_ok-list.ensures _ a h)
    (reaches_stops _ _ _ _ _ _ c.as_list.result c.from_residual-in_err-element.result c.in_err-element.field-0.0 c.in_err-element.was (search rules) (c.as_list.ensures c.args.context.now.scope.now))

pub returns-in_err-position : goal.returns-in_err-position
returns-in_err-position g c = leading_by _ _ _ _ _ _ (λ a h. c.in_ok-list.ensures _ a h)
    (leading_by _ _ _ _ _ _ (λ a h. c.in_ok-element.ensures c.args.context.now.scope.now _ a h)
    (reaches_stops _ _ _ _ _ _ c.asked.result c.from_residual-in_err-position.result c.in_err-position.field-0.0 c.in_err-position.was (search rules) c.asked.ensures))

pub returns : goal.returns
returns g c = c.in_ok-list.ensures _ _ (c.in_ok-element.ensures c.args.context.now.scope.now _ _ (c.in_ok-position.ensures _ _ (gives_made _ _ _ _ _ (search rules))))
