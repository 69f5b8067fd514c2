use Rattle.std.proofs.Common.{◌≡◌, ◌++◌, map, take}
use Rattle.st_type_table.specs.Leads.{names_in, joined}
use Rattle.st_ilcheck.proofs.contents.+names.Given as goal

abbrev pub invariant-add_all_names-loop-ty : goal.invariant-add_all_names-loop-ty
invariant-add_all_names-loop-ty l = l.names ≡ l.initial.names ++ joined (map names_in (take l.ty-index l.tys))
