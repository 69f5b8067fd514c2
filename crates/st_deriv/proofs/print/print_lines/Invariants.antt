use Rattle.std.proofs.Common.{drop}
use Rattle.st_text.proofs.CutOff.{Written}
use Rattle.st_deriv.specs.LineText.{lines_text}
use Rattle.st_deriv.proofs.print.print_lines.Given as goal

abbrev pub invariant-loop-line : goal.invariant-loop-line
invariant-loop-line l = Written l.initial.out.items (lines_text l.lines) l.out.items (lines_text (drop l.line-index l.lines))
