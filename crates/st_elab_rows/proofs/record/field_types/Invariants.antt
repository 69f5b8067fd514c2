use Rattle.std.proofs.Common.{◌≡◌, take}
use Rattle.st_elab_table.specs.Records.{field_types}
use Rattle.st_elab_rows.proofs.record.field_types.Given as goal

abbrev pub invariant-loop-field : goal.invariant-loop-field
invariant-loop-field l = l.types ≡ field_types (take l.field-index l.fields)
