use Rattle.std.proofs.Common.{◌≡◌, drop}
use Rattle.std.specs.Map.{lookup}
use Rattle.st_num.specs.Names.{same_name}
use Rattle.st_elab_rows.proofs.record.field_named.Given as goal

abbrev pub invariant-loop-field : goal.invariant-loop-field
invariant-loop-field l = lookup (same_name l.name) l.fields ≡ lookup (same_name l.name) (drop l.field-index l.fields)
