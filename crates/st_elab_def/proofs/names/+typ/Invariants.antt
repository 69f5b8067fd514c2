use Rattle.std.proofs.Common.{◌≡◌, ◌++◌, take}
use Rattle.std.specs.Prelude.{flat_map}
use Rattle.st_elab_def.specs.Phases.{names_in}
use Rattle.st_elab_def.proofs.names.+typ.Given as goal

abbrev pub invariant-push_all_names-loop-typ : goal.invariant-push_all_names-loop-typ
invariant-push_all_names-loop-typ l = l.out ≡ l.initial.out ++ flat_map names_in (take l.typ-index l.typs)
