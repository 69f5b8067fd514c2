use Rattle.std.proofs.Common.{◌≡◌, ◌++◌, take}
use Rattle.st_elab_sig.proofs.signature.push_word.Given as goal

abbrev pub invariant-loop-byte : goal.invariant-loop-byte
invariant-loop-byte l = l.tag ≡ l.initial.tag ++ take l.byte-index l.word
