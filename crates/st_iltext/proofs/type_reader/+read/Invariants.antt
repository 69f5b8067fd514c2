use Rattle.std.proofs.Common.{◌+◌, ◌*◌}
use Rattle.st_text.specs.Text.{depth, row_depth}
use Rattle.st_text.specs.Trees.{tree_of, trees_of}
use Rattle.st_iltext.specs.Expressions.{ty_tree}
use Rattle.st_iltext.specs.Written.{ty_written}
use Rattle.st_iltext.proofs.Rows.{SoFar}
use Rattle.st_iltext.proofs.type_reader.+read.Given as goal

abbrev pub decreases-read_ty : goal.decreases-read_ty
decreases-read_ty l = 4 * depth (tree_of l.tree.now)

abbrev pub decreases-read_type_form : goal.decreases-read_type_form
decreases-read_type_form l = 4 * row_depth (trees_of l.parts.now) + 3

abbrev pub decreases-read_list_type : goal.decreases-read_list_type
decreases-read_list_type l = 4 * row_depth (trees_of l.parts.now) + 2

abbrev pub decreases-read_option_type : goal.decreases-read_option_type
decreases-read_option_type l = 4 * row_depth (trees_of l.parts.now) + 2

abbrev pub decreases-read_tuple_type : goal.decreases-read_tuple_type
decreases-read_tuple_type l = 4 * row_depth (trees_of l.parts.now) + 2

abbrev pub decreases-read_tys : goal.decreases-read_tys
decreases-read_tys l = 4 * row_depth (trees_of l.trees.now) + 1

abbrev pub invariant-read_tys-loop-tree : goal.invariant-read_tys-loop-tree
invariant-read_tys-loop-tree l = SoFar ty_tree ty_written l.types l.trees l.tree-index
