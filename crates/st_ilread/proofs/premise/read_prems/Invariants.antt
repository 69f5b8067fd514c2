use Rattle.st_iltext.specs.Expressions.{prem_tree}
use Rattle.st_iltext.specs.Written.{prem_written}
use Rattle.st_iltext.proofs.Rows.{SoFar}
use Rattle.st_ilread.proofs.premise.read_prems.Given as goal

abbrev pub invariant-loop-tree : goal.invariant-loop-tree
invariant-loop-tree l = SoFar prem_tree prem_written l.premises l.trees l.tree-index
