use Rattle.st_elab_rows.proofs.Builds.{tells_row}
use Rattle.st_elab_exp.proofs.driver.+answer_at_depth+fn-answer_at_depth-row.Goals as goal

pub returns : goal.returns
returns t c = tells_row _ _ _ _ _ c.row.ensures
