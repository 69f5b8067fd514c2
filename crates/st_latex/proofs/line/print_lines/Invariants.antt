use Rattle.std.proofs.Common.{◌≡◌, ◌++◌, take}
use Rattle.st_latex.specs.LatexText.{latex_text}
use Rattle.st_latex.proofs.line.print_lines.Given as goal

abbrev pub invariant-loop-def : goal.invariant-loop-def
invariant-loop-def l = l.out.items ≡ l.initial.out.items ++ latex_text (take l.def-index l.defs)
