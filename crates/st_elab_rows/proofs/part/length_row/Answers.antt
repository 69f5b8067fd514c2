use Rattle.std.proofs.Common.{rules}
use Rattle.st_elab_rows.proofs.Builds.{leading_by, reaches_stops, gives_made}
use Rattle.st_elab_rows.proofs.part.length_row.Goals as goal

pub returns-in_err-as_list : goal.returns-in_err-as_list
returns-in_err-as_list g c = leading_by _ _ _ _ _ _ (λ a h. c.in_ok-list.ensures _ a h)
    (reaches_stops _ _ _ _ _ _ c.as_list.result c.from_residual-in_err-as_list.result c.in_err-as_list.field-0.0 c.in_err-as_list.was (search rules) (c.as_list.ensures c.args.context.now.scope.now))

pub returns : goal.returns
returns g c = c.in_ok-list.ensures _ _ (c.in_ok-as_list.ensures c.args.context.now.scope.now _ _ (gives_made _ _ _ _ _ (search rules)))
