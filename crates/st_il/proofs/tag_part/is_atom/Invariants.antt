use Rattle.std.proofs.Common.{◌≡◌, true, drop}
use Rattle.st_il.proofs.Atoms.{is_rest}
use Rattle.st_il.proofs.tag_part.is_atom.Given as goal

abbrev pub invariant-loop-byte : goal.invariant-loop-byte
invariant-loop-byte l = is_rest true l.text ≡ is_rest l.due (drop l.byte-index l.text)
