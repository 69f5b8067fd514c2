use Rattle.std.proofs.Common.{◌≡◌, ◌++◌, map, take}
use Rattle.st_type_table.specs.Leads.{names_in, joined}
use Rattle.st_type_table.proofs.position.+names.Given as goal

abbrev pub invariant-push_all_names-loop-ty : goal.invariant-push_all_names-loop-ty
invariant-push_all_names-loop-ty l = l.out ≡ l.initial.out ++ joined (map names_in (take l.ty-index l.tys))
