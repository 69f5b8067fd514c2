use Rattle.std.proofs.Common.{◌≡◌, ◌+◌, ◌≤◌, map, drop}
use Rattle.st_semantics.specs.OpenParts.{open_parts}
use Rattle.st_modes.specs.inner.Lengths.{item_lengths}
use Rattle.st_modes.proofs.open_parts.+fixed.Given as goal

abbrev pub invariant-open_parts-loop-item : goal.invariant-open_parts-loop-item
invariant-open_parts-loop-item l = record {
  count : l.count + open_parts (map item_lengths (drop l.item-index l.items)) ≡ open_parts (map item_lengths l.items);
  few : l.count ≤ l.item-index;
}
