use Rattle.std.proofs.Common.{◌+◌, ◌*◌, length}
use Rattle.st_text.specs.Text.{depth, row_depth}
use Rattle.st_text.specs.Trees.{tree_of, trees_of}
use Rattle.st_iltext.specs.Values.{value_tree, value_written}
use Rattle.st_iltext.proofs.Rows.{SoFar}
use Rattle.st_iltext.proofs.ValueReading.{FieldsSoFar}
use Rattle.st_iltext.proofs.value_reader.+read.Given as goal

abbrev pub decreases-value_of : goal.decreases-value_of
decreases-value_of l = 4 * depth (tree_of l.tree.now)

abbrev pub decreases-read_form : goal.decreases-read_form
decreases-read_form l = 4 * row_depth (trees_of l.parts.now) + 3

abbrev pub decreases-read_case : goal.decreases-read_case
decreases-read_case l = 4 * row_depth (trees_of l.parts.now) + 2

abbrev pub decreases-read_option : goal.decreases-read_option
decreases-read_option l = 4 * row_depth (trees_of l.parts.now) + 2

abbrev pub decreases-read_values : goal.decreases-read_values
decreases-read_values l = 4 * row_depth (trees_of l.trees.now) + 1

abbrev pub decreases-read_fields : goal.decreases-read_fields
decreases-read_fields l = 4 * row_depth (trees_of l.trees.now) + 1

abbrev pub invariant-read_fields-fields : goal.invariant-read_fields-fields
invariant-read_fields-fields l = FieldsSoFar l.fields l.trees l.rest

abbrev pub decreases-read_fields-fields : goal.decreases-read_fields-fields
decreases-read_fields-fields l = length l.rest

abbrev pub invariant-read_values-loop-tree : goal.invariant-read_values-loop-tree
invariant-read_values-loop-tree l = SoFar value_tree value_written l.values l.trees l.tree-index
