use Rattle.std.proofs.Common.{◌+◌, ◌*◌}
use Rattle.st_text.specs.Text.{depth, row_depth}
use Rattle.st_text.specs.Trees.{tree_of, trees_of}
use Rattle.st_ilread.proofs.premise.+premise.Given as goal

abbrev pub decreases-read_prem : goal.decreases-read_prem
decreases-read_prem l = 2 * depth (tree_of l.tree.now)

abbrev pub decreases-read_each : goal.decreases-read_each
decreases-read_each l = 2 * row_depth (trees_of l.parts.now) + 1
