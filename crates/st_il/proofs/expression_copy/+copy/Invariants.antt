use Rattle.std.proofs.Common.{◌≡◌, take}
use Rattle.st_il.proofs.expression_copy.+copy.Given as goal

abbrev pub invariant-copy_exps-loop-exp : goal.invariant-copy_exps-loop-exp
invariant-copy_exps-loop-exp l = l.copies ≡ take l.exp-index l.exps

abbrev pub invariant-copy_items-loop-item : goal.invariant-copy_items-loop-item
invariant-copy_items-loop-item l = l.copies ≡ take l.item-index l.items

abbrev pub invariant-copy_path-loop-segment : goal.invariant-copy_path-loop-segment
invariant-copy_path-loop-segment l = l.copies ≡ take l.segment-index l.path
