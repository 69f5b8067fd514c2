use Rattle.std.proofs.Common.{◌≡◌, map, drop, nat_le}
use Rattle.st_il.specs.Height.{height, highest, field_heights}
use Rattle.st_il.proofs.height.+height.Given as goal

abbrev pub invariant-parts_are_within-loop-part : goal.invariant-parts_are_within-loop-part
invariant-parts_are_within-loop-part l = nat_le (highest (map height l.parts)) l.limit ≡ nat_le (highest (map height (drop l.part-index l.parts))) l.limit

abbrev pub invariant-fields_are_within-loop-field : goal.invariant-fields_are_within-loop-field
invariant-fields_are_within-loop-field l = nat_le (highest (field_heights l.fields)) l.limit ≡ nat_le (highest (field_heights (drop l.field-index l.fields))) l.limit
