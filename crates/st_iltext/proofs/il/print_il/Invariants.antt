use Rattle.std.proofs.Common.{drop, flat_map}
use Rattle.st_iltext.specs.IlText.{definition_line}
use Rattle.st_text.proofs.CutOff.{Written}
use Rattle.st_iltext.proofs.il.print_il.Given as goal

abbrev pub invariant-loop-def : goal.invariant-loop-def
invariant-loop-def l =
    Written l.initial.out.items (flat_map definition_line l.def-items) l.out.items
    (flat_map definition_line (drop l.def-index l.def-items))
