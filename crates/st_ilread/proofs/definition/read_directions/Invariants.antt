use Rattle.st_iltext.specs.Definitions.{mode_word}
use Rattle.st_ilread.specs.inner.Parts.{any}
use Rattle.st_iltext.proofs.Rows.{SoFar}
use Rattle.st_ilread.proofs.definition.read_directions.Given as goal

abbrev pub invariant-loop-tree : goal.invariant-loop-tree
invariant-loop-tree l = SoFar mode_word any l.mode l.trees l.tree-index
