use Rattle.st_iltext.specs.Definitions.{alternative_tree}
use Rattle.st_iltext.specs.Written.{alternative_written}
use Rattle.st_iltext.proofs.Rows.{SoFar}
use Rattle.st_ilread.proofs.syntax.read_alternatives.Given as goal

abbrev pub invariant-loop-tree : goal.invariant-loop-tree
invariant-loop-tree l = SoFar alternative_tree alternative_written l.alternatives l.trees l.tree-index
