use Rattle.std.proofs.Common.{◌≡◌, take}
use Rattle.st_il.proofs.tree_copy.+copy.Given as goal

abbrev pub invariant-copy_children-loop-child : goal.invariant-copy_children-loop-child
invariant-copy_children-loop-child l = l.copies ≡ take l.child-index l.children
