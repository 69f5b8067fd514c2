use Rattle.st_iltext.specs.Definitions.{kind_word}
use Rattle.st_ilread.specs.inner.Parts.{any}
use Rattle.st_iltext.proofs.Rows.{SoFar}
use Rattle.st_ilread.proofs.variable.read_dim.Given as goal

abbrev pub invariant-loop-tree : goal.invariant-loop-tree
invariant-loop-tree l = SoFar kind_word any l.dim l.trees l.tree-index
