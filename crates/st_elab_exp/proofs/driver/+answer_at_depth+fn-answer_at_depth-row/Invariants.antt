use Rattle.std.proofs.Common.{◌+◌, ◌*◌}
use Rattle.st_elab_exp.proofs.driver.+answer_at_depth+fn-answer_at_depth-row.Given as goal

abbrev pub decreases-answer_at_depth : goal.decreases-answer_at_depth
decreases-answer_at_depth l = 2 * l.depth

abbrev pub decreases-row : goal.decreases-row
decreases-row l = 2 * l.depth + 1
