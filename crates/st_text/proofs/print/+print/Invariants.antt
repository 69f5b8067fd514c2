use Rattle.std.proofs.Common.{drop}
use Rattle.st_text.proofs.CutOff.{Written}
use Rattle.st_text.specs.Text.{behind}
use Rattle.st_text.specs.Trees.{trees_of}
use Rattle.st_text.proofs.print.+print.Given as goal

abbrev pub invariant-print_row-loop-tree : goal.invariant-print_row-loop-tree
invariant-print_row-loop-tree l = Written l.initial.out.items (behind (trees_of l.others)) l.out.items (behind (trees_of (drop l.tree-index l.others)))
