use Rattle.std.proofs.Common.{◌≡◌, ◌++◌, map, drop}
use Rattle.st_il.specs.Names.{flattened}
use Rattle.st_order.specs.inner.Index.{names_in}
use Rattle.st_order.specs.inner.Parts.{names_bound, bound_in, bound_item, bound_segment}
use Rattle.st_order.proofs.bindings.+bindings.Given as goal

abbrev pub invariant-push_all_bound-loop-exp : goal.invariant-push_all_bound-loop-exp
invariant-push_all_bound-loop-exp l = names_in l.names ++ names_bound (map bound_in (drop l.exp-index l.exps)) ≡ names_in l.initial.names ++ names_bound (map bound_in l.exps)

abbrev pub invariant-push_item_bound-loop-item : goal.invariant-push_item_bound-loop-item
invariant-push_item_bound-loop-item l =
    names_in l.names ++ names_bound (map bound_item (drop l.item-index l.items)) ≡ names_in l.initial.names ++ names_bound (map bound_item l.items)

abbrev pub invariant-push_path_bound-loop-segment : goal.invariant-push_path_bound-loop-segment
invariant-push_path_bound-loop-segment l =
    names_in l.names ++ flattened (map (λ s. names_bound (bound_segment s)) (drop l.segment-index l.path)) ≡ names_in l.initial.names ++ flattened (map (λ s. names_bound (bound_segment s)) l.path)
