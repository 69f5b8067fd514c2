use Rattle.std.proofs.Common.{rules}
use Rattle.st_elab_rows.proofs.Builds.{leading_by, reaches_stops, gives_made}
use Rattle.st_elab_rows.proofs.operand.equation_from_right.Goals as goal

pub returns-in_err-one : goal.returns-in_err-one
returns-in_err-one g c = leading_by _ _ _ _ _ _ (λ a h. c.in_ok-other.ensures _ a h)
    (reaches_stops _ _ _ _ _ _ c.asked.result c.from_residual-in_err-one.result c.in_err-one.field-0.0 c.in_err-one.was (search rules) c.asked.ensures)

pub returns : goal.returns
returns g c = c.in_ok-other.ensures _ _ (c.in_ok-one.ensures _ _ (gives_made _ _ _ _ _ (search rules)))
