use Rattle.std.proofs.Common.{rules}
use Rattle.st_elab_rows.proofs.Builds.{leading_by, reaches_stops, gives_made}
use Rattle.st_elab_rows.proofs.part.field_row.Goals as goal

pub returns-in_err-field : goal.returns-in_err-field
returns-in_err-field g c = leading_by _ _ _ _ _ _ (λ a h. c.in_ok-whole.ensures _ a h)
    (reaches_stops _ _ _ _ _ _ c.as_field.result c.from_residual-in_err-field.result c.in_err-field.field-0.0 c.in_err-field.was (search rules) (c.as_field.ensures c.args.context.now.scope.now))

pub returns : goal.returns
returns g c = c.in_ok-whole.ensures _ _ (c.in_ok-field.ensures c.args.context.now.scope.now _ _ (gives_made _ _ _ _ _ (search rules)))
