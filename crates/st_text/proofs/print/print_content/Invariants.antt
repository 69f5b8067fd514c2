use Rattle.std.proofs.Common.{flat_map, drop}
use Rattle.st_text.proofs.CutOff.{Written}
use Rattle.st_text.specs.Text.{escaped}
use Rattle.st_text.proofs.print.print_content.Given as goal

abbrev pub invariant-loop-byte : goal.invariant-loop-byte
invariant-loop-byte l = Written l.initial.out.items (flat_map escaped l.text) l.out.items (flat_map escaped (drop l.byte-index l.text))
