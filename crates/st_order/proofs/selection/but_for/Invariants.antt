use Rattle.std.proofs.Common.{◌≡◌, ◌++◌, drop}
use Rattle.st_semantics.specs.OrderOf.{but_for}
use Rattle.st_order.specs.inner.Selections.{all_numbered}
use Rattle.st_order.proofs.selection.but_for.Given as goal

abbrev pub invariant-loop-p : goal.invariant-loop-p
invariant-loop-p l = all_numbered l.row ++ but_for l.number (all_numbered (drop l.p-index l.left)) ≡ but_for l.number (all_numbered l.left)
