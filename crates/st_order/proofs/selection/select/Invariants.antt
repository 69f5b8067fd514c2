use Rattle.std.proofs.Common.{◌-◌, length}
use Rattle.std.specs.List.{enumerate_from}
use Rattle.st_semantics.specs.OrderOf.{select}
use Rattle.st_order.specs.inner.Index.{names_in}
use Rattle.st_order.specs.inner.Selections.{Continues}
use Rattle.st_order.proofs.selection.select.Given as goal

abbrev pub invariant-loop-step : goal.invariant-loop-step
invariant-loop-step l =
    Continues l.directions.il.now (length l.premises - l._step) l.selection (select l.directions.il.now (length l.premises) (names_in l.names) (enumerate_from 1 l.premises))
