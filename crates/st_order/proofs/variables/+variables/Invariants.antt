use Rattle.std.proofs.Common.{◌≡◌, ◌++◌, map, drop}
use Rattle.st_il.specs.Names.{flattened}
use Rattle.st_semantics.specs.Variables.{vars}
use Rattle.st_order.specs.inner.Index.{names_in}
use Rattle.st_order.specs.inner.Parts.{item_vars, segment_vars}
use Rattle.st_order.proofs.variables.+variables.Given as goal

abbrev pub invariant-push_all_vars-loop-exp : goal.invariant-push_all_vars-loop-exp
invariant-push_all_vars-loop-exp l = names_in l.names ++ flattened (map vars (drop l.exp-index l.exps)) ≡ names_in l.initial.names ++ flattened (map vars l.exps)

abbrev pub invariant-push_item_vars-loop-item : goal.invariant-push_item_vars-loop-item
invariant-push_item_vars-loop-item l =
    names_in l.names ++ flattened (map item_vars (drop l.item-index l.items)) ≡ names_in l.initial.names ++ flattened (map item_vars l.items)

abbrev pub invariant-push_path_vars-loop-segment : goal.invariant-push_path_vars-loop-segment
invariant-push_path_vars-loop-segment l =
    names_in l.names ++ flattened (map (λ s. flattened (segment_vars s)) (drop l.segment-index l.path)) ≡ names_in l.initial.names ++ flattened (map (λ s. flattened (segment_vars s)) l.path)
