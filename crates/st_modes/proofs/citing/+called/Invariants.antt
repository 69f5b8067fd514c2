use Rattle.std.proofs.Common.{◌≡◌, ◌++◌, map, drop}
use Rattle.st_il.specs.Names.{flattened}
use Rattle.st_semantics.specs.Variables.{called}
use Rattle.st_order.specs.inner.Index.{names_in}
use Rattle.st_order.specs.inner.Parts.{called_item, called_segment}
use Rattle.st_modes.proofs.citing.+called.Given as goal

abbrev pub invariant-push_all_called-loop-exp : goal.invariant-push_all_called-loop-exp
invariant-push_all_called-loop-exp l = names_in l.names ++ flattened (map called (drop l.exp-index l.exps)) ≡ names_in l.initial.names ++ flattened (map called l.exps)

abbrev pub invariant-push_item_called-loop-item : goal.invariant-push_item_called-loop-item
invariant-push_item_called-loop-item l =
    names_in l.names ++ flattened (map called_item (drop l.item-index l.items)) ≡ names_in l.initial.names ++ flattened (map called_item l.items)

abbrev pub invariant-push_path_called-loop-segment : goal.invariant-push_path_called-loop-segment
invariant-push_path_called-loop-segment l =
    names_in l.names ++ flattened (map (λ s. flattened (called_segment s)) (drop l.segment-index l.path)) ≡ names_in l.initial.names ++ flattened (map (λ s. flattened (called_segment s)) l.path)
