use Rattle.st_iltext.specs.Definitions.{listed_tree}
use Rattle.st_iltext.specs.Written.{listed_written}
use Rattle.st_iltext.proofs.Rows.{SoFar}
use Rattle.st_ilread.proofs.variable.read_all_listed.Given as goal

abbrev pub invariant-loop-tree : goal.invariant-loop-tree
invariant-loop-tree l = SoFar listed_tree listed_written l.variables l.trees l.tree-index
