use Rattle.std.proofs.Common.{◌≡◌, ◌++◌, map, take}
use Rattle.st_deps.specs.Cited.{in_all}
use Rattle.st_deps.specs.Definitions.{field_names}
use Rattle.st_deps.proofs.definition.add_fields.Given as goal

abbrev pub invariant-loop-field : goal.invariant-loop-field
invariant-loop-field l = l.names ≡ l.initial.names ++ in_all (map field_names (take l.field-index l.fields))
