use Rattle.std.proofs.Common.{◌≡◌, ◌++◌, map, drop, take}
use Rattle.st_iltext.specs.Expressions.{exp_tree, item_tree, segment_tree}
use Rattle.st_text.specs.Trees.{tree_of}
use Rattle.st_iltext.proofs.expression.+exp.Given as goal

abbrev pub invariant-push_exps-loop-exp : goal.invariant-push_exps-loop-exp
invariant-push_exps-loop-exp l =
    map tree_of l.trees ++ map exp_tree (drop l.exp-index l.exps) ≡ map tree_of l.initial.trees ++ map exp_tree l.exps

abbrev pub invariant-push_items-loop-item : goal.invariant-push_items-loop-item
invariant-push_items-loop-item l =
    map tree_of l.trees ++ map item_tree (drop l.item-index l.items) ≡ map tree_of l.initial.trees ++ map item_tree l.items

abbrev pub invariant-path_tree-loop-segment : goal.invariant-path_tree-loop-segment
invariant-path_tree-loop-segment l = map tree_of l.trees ≡ map segment_tree (take l.segment-index l.path)
