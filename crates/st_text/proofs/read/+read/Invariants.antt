use Rattle.std.proofs.Common.{◌+◌, ◌*◌, length}
use Rattle.st_text.proofs.Rows.{RowSoFar}
use Rattle.st_text.proofs.read.+read.Given as goal

abbrev pub decreases-read_list : goal.decreases-read_list
decreases-read_list l = 3 * l.limit

abbrev pub decreases-read_within : goal.decreases-read_within
decreases-read_within l = 3 * l.limit + 1

abbrev pub decreases-read_row_within : goal.decreases-read_row_within
decreases-read_row_within l = 3 * l.limit + 2

abbrev pub invariant-read_row_within-trees : goal.invariant-read_row_within-trees
invariant-read_row_within-trees l = RowSoFar l.limit l.bytes l.found l.rest

abbrev pub decreases-read_row_within-trees : goal.decreases-read_row_within-trees
decreases-read_row_within-trees l = length l.rest
