use Rattle.std.proofs.Common.{◌≡◌, take}
use Rattle.st_il.proofs.same.+same_value.Given as goal

abbrev pub invariant-same_values-loop-i : goal.invariant-same_values-loop-i
invariant-same_values-loop-i l = take l.i l.a ≡ take l.i l.b

abbrev pub invariant-same_fields-loop-i : goal.invariant-same_fields-loop-i
invariant-same_fields-loop-i l = take l.i l.a ≡ take l.i l.b
