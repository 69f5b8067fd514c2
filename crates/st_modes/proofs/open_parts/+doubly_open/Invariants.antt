use Rattle.std.proofs.Common.{◌≡◌, map, drop}
use Rattle.st_semantics.specs.OpenParts.{any_doubly_open}
use Rattle.st_modes.specs.inner.Lengths.{lengths, item_lengths, any_step_doubly_open}
use Rattle.st_modes.proofs.open_parts.+doubly_open.Given as goal

abbrev pub invariant-is_any_doubly_open-loop-exp : goal.invariant-is_any_doubly_open-loop-exp
invariant-is_any_doubly_open-loop-exp l = any_doubly_open (map lengths l.exps) ≡ any_doubly_open (map lengths (drop l.exp-index l.exps))

abbrev pub invariant-is_any_item_doubly_open-loop-item : goal.invariant-is_any_item_doubly_open-loop-item
invariant-is_any_item_doubly_open-loop-item l = any_doubly_open (map item_lengths l.items) ≡ any_doubly_open (map item_lengths (drop l.item-index l.items))

abbrev pub invariant-is_any_step_doubly_open-loop-segment : goal.invariant-is_any_step_doubly_open-loop-segment
invariant-is_any_step_doubly_open-loop-segment l = any_step_doubly_open l.path ≡ any_step_doubly_open (drop l.segment-index l.path)
