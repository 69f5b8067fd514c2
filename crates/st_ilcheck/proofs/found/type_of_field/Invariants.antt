use Rattle.std.proofs.Common.{◌≡◌, drop}
use Rattle.st_semantics.specs.OperationTypes.{field_type}
use Rattle.st_ilcheck.proofs.found.type_of_field.Given as goal

abbrev pub invariant-loop-field : goal.invariant-loop-field
invariant-loop-field l = field_type l.name l.fields ≡ field_type l.name (drop l.field-index l.fields)
