use Rattle.std.proofs.Common.{◌↔◌, drop}
use Rattle.st_type_table.specs.HasType.{HaveTypes, AllHaveType, FieldsHaveTypes}
use Rattle.st_types.proofs.typing.+typing.Given as goal

abbrev pub invariant-have_types-loop-i : goal.invariant-have_types-loop-i
invariant-have_types-loop-i l = HaveTypes l.table (drop l.i l.values) (drop l.i l.types) ↔ HaveTypes l.table l.values l.types

abbrev pub invariant-all_have_type-loop-value : goal.invariant-all_have_type-loop-value
invariant-all_have_type-loop-value l = AllHaveType l.table (drop l.value-index l.values) l.ty ↔ AllHaveType l.table l.values l.ty

abbrev pub invariant-fields_have_types-loop-i : goal.invariant-fields_have_types-loop-i
invariant-fields_have_types-loop-i l = FieldsHaveTypes l.table (drop l.i l.values) (drop l.i l.fields) ↔ FieldsHaveTypes l.table l.values l.fields
