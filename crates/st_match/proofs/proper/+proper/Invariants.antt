use Rattle.std.proofs.Common.{◌↔◌, drop}
use Rattle.st_match.specs.inner.Proper.{AreProper, FieldsAreProper}
use Rattle.st_match.proofs.proper.+proper.Given as goal

abbrev pub invariant-are_proper-loop-value : goal.invariant-are_proper-loop-value
invariant-are_proper-loop-value l = AreProper (drop l.value-index l.values) ↔ AreProper l.values

abbrev pub invariant-fields_are_proper-loop-field : goal.invariant-fields_are_proper-loop-field
invariant-fields_are_proper-loop-field l = FieldsAreProper (drop l.field-index l.fields) ↔ FieldsAreProper l.fields
