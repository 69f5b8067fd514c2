use Rattle.std.proofs.Common.{◌≡◌, take}
use Rattle.st_il.proofs.definition_copy.copy_typed.Given as goal

abbrev pub invariant-loop-one : goal.invariant-loop-one
invariant-loop-one l = l.copies ≡ take l.one-index l.named
