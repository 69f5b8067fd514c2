use Rattle.std.proofs.Common.{drop}
use Rattle.st_text.proofs.CutOff.{Written}
use Rattle.st_text.specs.Text.{behind}
use Rattle.st_deriv.specs.LineText.{value_trees}
use Rattle.st_deriv.proofs.print.print_behind.Given as goal

abbrev pub invariant-loop-value : goal.invariant-loop-value
invariant-loop-value l = Written l.initial.out.items (behind (value_trees l.values)) l.out.items (behind (value_trees (drop l.value-index l.values)))
