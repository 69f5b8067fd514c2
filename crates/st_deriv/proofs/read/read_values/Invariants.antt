use Rattle.st_deriv.proofs.Values.{ValuesSoFar}
use Rattle.st_deriv.proofs.read.read_values.Given as goal

abbrev pub invariant-loop-tree : goal.invariant-loop-tree
invariant-loop-tree l = ValuesSoFar l.values l.trees l.tree-index
