use Rattle.st_iltext.specs.Definitions.{field_tree}
use Rattle.st_iltext.specs.Written.{field_written}
use Rattle.st_iltext.proofs.Rows.{SoFar}
use Rattle.st_ilread.proofs.syntax.read_fields.Given as goal

abbrev pub invariant-loop-tree : goal.invariant-loop-tree
invariant-loop-tree l = SoFar field_tree field_written l.fields l.trees l.tree-index
