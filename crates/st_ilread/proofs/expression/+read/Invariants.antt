use Rattle.std.proofs.Common.{◌+◌, ◌*◌}
use Rattle.st_text.specs.Text.{depth, row_depth}
use Rattle.st_text.specs.Trees.{tree_of, trees_of}
use Rattle.st_iltext.specs.Expressions.{exp_tree, item_tree, segment_tree}
use Rattle.st_iltext.specs.Written.{exp_written, item_written, segment_written}
use Rattle.st_iltext.proofs.Rows.{SoFar}
use Rattle.st_ilread.proofs.expression.+read.Given as goal

abbrev pub decreases-read_exp : goal.decreases-read_exp
decreases-read_exp l = 9 * depth (tree_of l.tree.now)

abbrev pub decreases-read_boxed : goal.decreases-read_boxed
decreases-read_boxed l = 9 * depth (tree_of l.tree.now) + 1

abbrev pub decreases-read_only : goal.decreases-read_only
decreases-read_only l = 9 * row_depth (trees_of l.trees.now) + 1

abbrev pub decreases-read_kind : goal.decreases-read_kind
decreases-read_kind l = 9 * row_depth (trees_of l.parts.now) + 8

abbrev pub decreases-read_unary : goal.decreases-read_unary
decreases-read_unary l = 9 * row_depth (trees_of l.parts.now) + 7

abbrev pub decreases-read_two : goal.decreases-read_two
decreases-read_two l = 9 * row_depth (trees_of l.trees.now) + 5

abbrev pub decreases-read_binary : goal.decreases-read_binary
decreases-read_binary l = 9 * row_depth (trees_of l.parts.now) + 7

abbrev pub decreases-read_arithmetic : goal.decreases-read_arithmetic
decreases-read_arithmetic l = 9 * row_depth (trees_of l.parts.now) + 7

abbrev pub decreases-read_case : goal.decreases-read_case
decreases-read_case l = 9 * row_depth (trees_of l.parts.now) + 7

abbrev pub decreases-read_named : goal.decreases-read_named
decreases-read_named l = 9 * row_depth (trees_of l.trees.now) + 6

abbrev pub decreases-read_fields : goal.decreases-read_fields
decreases-read_fields l = 9 * row_depth (trees_of l.parts.now) + 7

abbrev pub decreases-read_call : goal.decreases-read_call
decreases-read_call l = 9 * row_depth (trees_of l.parts.now) + 7

abbrev pub decreases-read_dot : goal.decreases-read_dot
decreases-read_dot l = 9 * row_depth (trees_of l.parts.now) + 7

abbrev pub decreases-read_update : goal.decreases-read_update
decreases-read_update l = 9 * row_depth (trees_of l.trees.now) + 6

abbrev pub decreases-read_set : goal.decreases-read_set
decreases-read_set l = 9 * row_depth (trees_of l.parts.now) + 7

abbrev pub decreases-read_extend : goal.decreases-read_extend
decreases-read_extend l = 9 * row_depth (trees_of l.parts.now) + 7

abbrev pub decreases-read_tuple : goal.decreases-read_tuple
decreases-read_tuple l = 9 * row_depth (trees_of l.parts.now) + 7

abbrev pub decreases-read_list : goal.decreases-read_list
decreases-read_list l = 9 * row_depth (trees_of l.parts.now) + 7

abbrev pub decreases-read_slice : goal.decreases-read_slice
decreases-read_slice l = 9 * row_depth (trees_of l.parts.now) + 7

abbrev pub decreases-read_up : goal.decreases-read_up
decreases-read_up l = 9 * row_depth (trees_of l.parts.now) + 7

abbrev pub decreases-read_iter : goal.decreases-read_iter
decreases-read_iter l = 9 * row_depth (trees_of l.parts.now) + 7

abbrev pub decreases-read_exps : goal.decreases-read_exps
decreases-read_exps l = 9 * row_depth (trees_of l.trees.now) + 5

abbrev pub decreases-read_items : goal.decreases-read_items
decreases-read_items l = 9 * row_depth (trees_of l.trees.now) + 5

abbrev pub decreases-read_item : goal.decreases-read_item
decreases-read_item l = 9 * depth (tree_of l.tree.now) + 4

abbrev pub decreases-read_element : goal.decreases-read_element
decreases-read_element l = 9 * row_depth (trees_of l.parts.now) + 7

abbrev pub decreases-read_elements : goal.decreases-read_elements
decreases-read_elements l = 9 * row_depth (trees_of l.parts.now) + 7

abbrev pub decreases-read_path : goal.decreases-read_path
decreases-read_path l = 9 * depth (tree_of l.tree.now) + 4

abbrev pub decreases-read_segments : goal.decreases-read_segments
decreases-read_segments l = 9 * row_depth (trees_of l.trees.now) + 5

abbrev pub decreases-read_segment : goal.decreases-read_segment
decreases-read_segment l = 9 * depth (tree_of l.tree.now) + 4

abbrev pub decreases-read_index_step : goal.decreases-read_index_step
decreases-read_index_step l = 9 * row_depth (trees_of l.parts.now) + 7

abbrev pub decreases-read_slice_step : goal.decreases-read_slice_step
decreases-read_slice_step l = 9 * row_depth (trees_of l.parts.now) + 7

abbrev pub decreases-read_iteration : goal.decreases-read_iteration
decreases-read_iteration l = 9 * depth (tree_of l.tree.now) + 4

abbrev pub decreases-read_count : goal.decreases-read_count
decreases-read_count l = 9 * row_depth (trees_of l.parts.now) + 7

abbrev pub invariant-read_exps-loop-tree : goal.invariant-read_exps-loop-tree
invariant-read_exps-loop-tree l = SoFar exp_tree exp_written l.exps l.trees l.tree-index

abbrev pub invariant-read_items-loop-tree : goal.invariant-read_items-loop-tree
invariant-read_items-loop-tree l = SoFar item_tree item_written l.items l.trees l.tree-index

abbrev pub invariant-read_segments-loop-tree : goal.invariant-read_segments-loop-tree
invariant-read_segments-loop-tree l = SoFar segment_tree segment_written l.segments l.trees l.tree-index
