use Rattle.st_text.specs.Text.{quote}
use Rattle.st_ilread.specs.inner.Parts.{any}
use Rattle.st_iltext.proofs.Rows.{SoFar}
use Rattle.st_ilread.proofs.name.read_quotes.Given as goal

abbrev pub invariant-loop-tree : goal.invariant-loop-tree
invariant-loop-tree l = SoFar quote any l.names l.trees l.tree-index
