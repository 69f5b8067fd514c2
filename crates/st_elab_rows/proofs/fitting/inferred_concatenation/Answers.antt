use Rattle.std.proofs.Common.{rules}
use Rattle.st_elab_rows.proofs.Builds.{leading_by, reaches_stops}
use Rattle.st_elab_rows.proofs.fitting.inferred_concatenation.Goals as goal

pub returns-in_err-other : goal.returns-in_err-other
returns-in_err-other g c = leading_by _ _ _ _ _ _ (λ a h. c.in_ok-one.ensures _ a h)
    (reaches_stops _ _ _ _ _ _ c.found-2.result c.from_residual-in_err-other.result c.in_err-other.field-0.0 c.in_err-other.was (search rules) c.found-2.ensures)

pub returns : goal.returns
returns g c = leading_by _ _ _ _ _ _ (λ a h. c.in_ok-one.ensures _ a h)
    (leading_by _ _ _ _ _ _ (λ a h. c.in_ok-other.ensures _ a h)
    (c.concatenated.ensures))
