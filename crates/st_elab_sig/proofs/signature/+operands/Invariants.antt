use Rattle.std.proofs.Common.{◌≡◌, ◌++◌, map, flat_map, take}
use Rattle.st_elab_sig.specs.Types.{ty_of}
use Rattle.st_elab_sig.specs.Signatures.{holes_of}
use Rattle.st_elab_sig.proofs.signature.+operands.Given as goal

abbrev pub invariant-push_part_operands-loop-part : goal.invariant-push_part_operands-loop-part
invariant-push_part_operands-loop-part l =
    l.operands ≡ l.initial.operands ++ map ty_of (flat_map holes_of (take l.part-index l.parts))
