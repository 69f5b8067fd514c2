use Rattle.std.proofs.Common.{◌≡◌, ◌+◌, ◌++◌, drop}
use Rattle.std.specs.List.{enumerate_from}
use Rattle.st_order.specs.inner.Selections.{all_numbered}
use Rattle.st_order.proofs.selection.number_premises.Given as goal

abbrev pub invariant-loop-i : goal.invariant-loop-i
invariant-loop-i l = all_numbered l.row ++ enumerate_from (l.i + 1) (drop l.i l.premises) ≡ enumerate_from 1 l.premises
