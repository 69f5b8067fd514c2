use Rattle.std.proofs.Common.{rules}
use Rattle.st_elab_table.specs.Questions.{Asks}
use Rattle.st_elab_table.specs.Steps.{asked, give}
use Rattle.st_elab_rows.proofs.Builds.{leading_by, reaches_stops, gives_made}
use Rattle.st_elab_rows.proofs.fitting.concatenation_row.Goals as goal

pub returns-in_err-join : goal.returns-in_err-join
returns-in_err-join g c = reaches_stops _ _ _ (λ join. Asks (asked c.args.context.now.within.now c.args.left.now c.args.ty.now) (λ a. Asks (asked c.args.context.now.within.now c.args.right.now c.args.ty.now) (λ b. give (join a.exp b.exp) c.args.ty.now))) _ _ c.as_joined.result c.from_residual.result c.in_err-join.field-0.0 c.in_err-join.was (search rules) (c.as_joined.ensures c.args.context.now.scope.now)

pub returns-in_err-one : goal.returns-in_err-one
returns-in_err-one g c = leading_by _ _ _ _ _ _ (λ a h. c.in_ok-join.ensures c.args.context.now.scope.now (λ join. Asks (asked c.args.context.now.within.now c.args.left.now c.args.ty.now) (λ a. Asks (asked c.args.context.now.within.now c.args.right.now c.args.ty.now) (λ b. give (join a.exp b.exp) c.args.ty.now))) a h)
    (reaches_stops _ _ _ _ _ _ c.asked.result c.from_residual-in_err-one.result c.in_err-one.field-0.0 c.in_err-one.was (search rules) c.asked.ensures)

pub returns-in_err-other : goal.returns-in_err-other
returns-in_err-other g c = leading_by _ _ _ _ _ _ (λ a h. c.in_ok-join.ensures c.args.context.now.scope.now (λ join. Asks (asked c.args.context.now.within.now c.args.left.now c.args.ty.now) (λ a. Asks (asked c.args.context.now.within.now c.args.right.now c.args.ty.now) (λ b. give (join a.exp b.exp) c.args.ty.now))) a h)
    (leading_by _ _ _ _ _ _ (λ a h. c.in_ok-one.ensures _ a h)
    (reaches_stops _ _ _ _ _ _ c.asked-2.result c.from_residual-in_err-other.result c.in_err-other.field-0.0 c.in_err-other.was (search rules) c.asked-2.ensures))

pub returns : goal.returns
returns g c = c.in_ok-join.ensures c.args.context.now.scope.now (λ join. Asks (asked c.args.context.now.within.now c.args.left.now c.args.ty.now) (λ a. Asks (asked c.args.context.now.within.now c.args.right.now c.args.ty.now) (λ b. give (join a.exp b.exp) c.args.ty.now))) _ (c.in_ok-one.ensures _ _ (c.in_ok-other.ensures _ _ (gives_made _ _ _ _ _ (search rules))))
