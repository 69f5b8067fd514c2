use Rattle.std.proofs.Common.{◌≡◌, ◌++◌, map, drop}
use Rattle.st_erase.specs.Erasure.{fields}
use Rattle.st_erase.specs.Records.{field_name}
use Rattle.st_erase.proofs.record.written_fields.Given as goal

abbrev pub invariant-loop-field : goal.invariant-loop-field
invariant-loop-field l = l.written ++ fields (map field_name (drop l.field-index l.names)) l.left.items ≡ fields (map field_name l.names) l.fn.parts
