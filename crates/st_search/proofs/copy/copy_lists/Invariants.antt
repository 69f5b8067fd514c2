use Rattle.std.proofs.Common.{◌≡◌, take}
use Rattle.st_search.proofs.copy.copy_lists.Given as goal

abbrev pub invariant-loop-children : goal.invariant-loop-children
invariant-loop-children l = l.copies ≡ take l.children-index l.lists
