use Rattle.std.proofs.Common.{◌≡◌, map, drop}
use Rattle.st_il.specs.Occurrences.{occurs, occurs_in_item, occurs_in_step, in_any}
use Rattle.st_il.proofs.occurs.+occurs.Given as goal

abbrev pub invariant-any_has-loop-part : goal.invariant-any_has-loop-part
invariant-any_has-loop-part l = in_any (map (occurs l.name) l.parts) ≡ in_any (map (occurs l.name) (drop l.part-index l.parts))

abbrev pub invariant-any_item_has-loop-item : goal.invariant-any_item_has-loop-item
invariant-any_item_has-loop-item l =
    in_any (map (occurs_in_item l.name) l.items) ≡ in_any (map (occurs_in_item l.name) (drop l.item-index l.items))

abbrev pub invariant-any_step_has-loop-step : goal.invariant-any_step_has-loop-step
invariant-any_step_has-loop-step l =
    in_any (map (occurs_in_step l.name) l.path) ≡ in_any (map (occurs_in_step l.name) (drop l.step-index l.path))
