use Rattle.std.proofs.Common.{◌↔◌, drop}
use Rattle.st_type_table.specs.Breach.{field_type}
use Rattle.st_type_table.proofs.check.has_field.Given as goal

abbrev pub invariant-loop-field : goal.invariant-loop-field
invariant-loop-field l = field_type (drop l.field-index l.fields) l.name ↔ field_type l.fields l.name
