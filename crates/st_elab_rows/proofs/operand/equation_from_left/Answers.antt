use Rattle.st_elab_rows.proofs.Builds.{leading_by}
use Rattle.st_elab_rows.proofs.operand.equation_from_left.Goals as goal

pub returns : goal.returns
returns g c = leading_by _ _ _ _ _ _ (λ a h. c.in_ok-one.ensures _ a h)
    (c.beside.ensures)
