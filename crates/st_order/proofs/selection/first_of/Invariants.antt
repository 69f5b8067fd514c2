use Rattle.std.proofs.Common.{◌≡◌, drop}
use Rattle.st_order.specs.inner.Index.{names_in}
use Rattle.st_order.specs.inner.Selections.{all_numbered, first_of}
use Rattle.st_order.proofs.selection.first_of.Given as goal

abbrev pub invariant-loop-p : goal.invariant-loop-p
invariant-loop-p l =
    first_of l.directions.il.now (names_in l.bound.keys) l.wanted (all_numbered l.left) ≡ first_of l.directions.il.now (names_in l.bound.keys) l.wanted (all_numbered (drop l.p-index l.left))
