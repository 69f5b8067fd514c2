use Rattle.std.proofs.Common.{◌≡◌, take}
use Rattle.st_il.proofs.definition_copy.copy_alternatives.Given as goal

abbrev pub invariant-loop-part : goal.invariant-loop-part
invariant-loop-part l = l.copies ≡ take l.part-index l.parts
