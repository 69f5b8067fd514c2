use Rattle.std.proofs.Common.{◌≡◌, ◌++◌, flat_map, take}
use Rattle.st_elab_sig.specs.inner.Words.{words_in, trailed}
use Rattle.st_elab_sig.proofs.signature.+words.Given as goal

abbrev pub invariant-push_parts-loop-part : goal.invariant-push_parts-loop-part
invariant-push_parts-loop-part l =
    l.tag ≡ l.initial.tag ++ trailed (flat_map words_in (take l.part-index l.parts))
