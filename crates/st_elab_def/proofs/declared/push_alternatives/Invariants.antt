use Rattle.std.proofs.Common.{◌≡◌, ◌++◌, take}
use Rattle.std.specs.Prelude.{flat_map}
use Rattle.st_elab_def.specs.DeclsOf.{alternative_of}
use Rattle.st_elab_def.proofs.declared.push_alternatives.Given as goal

abbrev pub invariant-loop-notation : goal.invariant-loop-notation
invariant-loop-notation l = l.out ≡ l.initial.out ++ flat_map alternative_of (take l.notation-index l.notations)
