use Rattle.std.proofs.Common.{◌+◌, ◌*◌}
use Rattle.st_search.proofs.search.+fn-solve-run_relation+solve.Given as goal

abbrev pub decreases-solve : goal.decreases-solve
decreases-solve l = 2 * l.left

abbrev pub decreases-run_relation : goal.decreases-run_relation
decreases-run_relation l = 2 * l.less + 1
