use Rattle.std.proofs.Common.{◌≡◌, ◌≤◌, drop, length}
use Rattle.st_il.specs.Order.{values_cmp, fields_cmp}
use Rattle.st_il.proofs.order.+compare.Given as goal

abbrev pub invariant-compare_parts-loop-i : goal.invariant-compare_parts-loop-i
invariant-compare_parts-loop-i l = record { within : l.i ≤ length l.others; rest : values_cmp l.parts l.others ≡ values_cmp (drop l.i l.parts) (drop l.i l.others) }

abbrev pub invariant-compare_fields-loop-i : goal.invariant-compare_fields-loop-i
invariant-compare_fields-loop-i l = record { within : l.i ≤ length l.others; rest : fields_cmp l.fields l.others ≡ fields_cmp (drop l.i l.fields) (drop l.i l.others) }
