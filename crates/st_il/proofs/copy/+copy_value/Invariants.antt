use Rattle.std.proofs.Common.{◌≡◌, take}
use Rattle.st_il.proofs.copy.+copy_value.Given as goal

abbrev pub invariant-copy_values-loop-value : goal.invariant-copy_values-loop-value
invariant-copy_values-loop-value l = l.copies ≡ take l.value-index l.values

abbrev pub invariant-copy_fields-loop-field : goal.invariant-copy_fields-loop-field
invariant-copy_fields-loop-field l = l.copies ≡ take l.field-index l.fields
