use Rattle.std.proofs.Common.{◌≡◌, ◌++◌, take}
use Rattle.std.specs.Prelude.{flat_map}
use Rattle.st_elab_sig.specs.Signatures.{holes_of}
use Rattle.st_elab_def.specs.Phases.{names_in}
use Rattle.st_elab_def.proofs.names.+notation.Given as goal

abbrev pub invariant-push_part_names-loop-notation : goal.invariant-push_part_names-loop-notation
invariant-push_part_names-loop-notation l = l.out ≡ l.initial.out ++ flat_map names_in (flat_map holes_of (take l.notation-index l.notations))
