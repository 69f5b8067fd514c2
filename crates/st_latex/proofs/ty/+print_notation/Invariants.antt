use Rattle.std.proofs.Common.{◌≡◌, ◌++◌, map, take}
use Rattle.st_latex.specs.Parts.{joined}
use Rattle.st_latex.specs.Types.{latex_notation}
use Rattle.st_latex.proofs.ty.+print_notation.Given as goal

abbrev pub invariant-print_notations-loop-notation : goal.invariant-print_notations-loop-notation
invariant-print_notations-loop-notation l =
    l.out.items ≡ l.initial.out.items ++ joined (map latex_notation (take l.notation-index l.notations))
