use Rattle.std.proofs.Common.{rules}
use Rattle.st_elab_table.specs.Paths.{along}
use Rattle.st_elab_rows.proofs.Builds.{leading_by, reaches_stops, gives_made}
use Rattle.st_elab_rows.proofs.Walking.{walk_stops}
use Rattle.st_elab_rows.proofs.path.extension_row.Goals as goal

pub returns-in_err-walked : goal.returns-in_err-walked
returns-in_err-walked g c = leading_by _ _ _ _ _ _ (λ a h. c.in_ok-whole.ensures _ a h)
    (walk_stops c.args.context.now (along c.args.context.now.decls.now c.args.context.now.within.now c.args.at c.args.path.now c.in_ok-whole.whole.ty) _ _
    c.along.result c.from_residual-in_err-walked.result c.in_err-walked.field-0.0 c.in_err-walked.was (search rules) c.along.ensures)

pub returns-in_err-as_list : goal.returns-in_err-as_list
returns-in_err-as_list g c = leading_by _ _ _ _ _ _ (λ a h. c.in_ok-whole.ensures _ a h)
    (leading_by _ _ _ _ _ _ (λ a h. c.in_ok-walked.ensures _ a h)
    (reaches_stops _ _ _ _ _ _ c.as_list.result c.from_residual-in_err-as_list.result c.in_err-as_list.field-0.0 c.in_err-as_list.was (search rules) (c.as_list.ensures c.args.context.now.scope.now)))

pub returns-in_err-part : goal.returns-in_err-part
returns-in_err-part g c = leading_by _ _ _ _ _ _ (λ a h. c.in_ok-whole.ensures _ a h)
    (leading_by _ _ _ _ _ _ (λ a h. c.in_ok-walked.ensures _ a h)
    (leading_by _ _ _ _ _ _ (λ a h. c.in_ok-as_list.ensures c.args.context.now.scope.now _ a h)
    (reaches_stops _ _ _ _ _ _ c.asked.result c.from_residual-in_err-part.result c.in_err-part.field-0.0 c.in_err-part.was (search rules) c.asked.ensures)))

pub returns : goal.returns
returns g c = c.in_ok-whole.ensures _ _ (c.in_ok-walked.ensures _ _ (c.in_ok-as_list.ensures c.args.context.now.scope.now _ _ (c.in_ok-part.ensures _ _ (gives_made _ _ _ _ _ (search rules)))))
