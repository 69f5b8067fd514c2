use Rattle.std.proofs.Common.{◌+◌, ◌*◌}
use Rattle.st_eval.proofs.calls.+call_at+fn-call_at-decide.Given as goal

abbrev pub decreases-call_at : goal.decreases-call_at
decreases-call_at l = 2 * l.depth

abbrev pub decreases-decide : goal.decreases-decide
decreases-decide l = 2 * l.less + 1
