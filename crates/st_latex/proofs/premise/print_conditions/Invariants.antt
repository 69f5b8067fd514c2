use Rattle.std.proofs.Common.{◌≡◌, ◌++◌, take}
use Rattle.st_latex.specs.LatexText.{conditions}
use Rattle.st_latex.proofs.premise.print_conditions.Given as goal

abbrev pub invariant-loop-prem : goal.invariant-loop-prem
invariant-loop-prem l = l.out.items ≡ l.initial.out.items ++ conditions (take l.prem-index l.premises)
