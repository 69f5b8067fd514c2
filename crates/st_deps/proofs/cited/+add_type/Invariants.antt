use Rattle.std.proofs.Common.{◌≡◌, ◌++◌, map, take}
use Rattle.st_deps.specs.Cited.{in_all, type_names}
use Rattle.st_deps.proofs.cited.+add_type.Given as goal

abbrev pub invariant-add_types-loop-ty : goal.invariant-add_types-loop-ty
invariant-add_types-loop-ty l = l.names ≡ l.initial.names ++ in_all (map type_names (take l.ty-index l.tys))
