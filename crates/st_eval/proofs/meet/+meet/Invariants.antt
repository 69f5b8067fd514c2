use Rattle.std.proofs.Common.{◌+◌}
use Rattle.st_semantics.specs.Iterations.{index_of}
use Rattle.st_match.specs.inner.Scope.{entries_of, columns_now}
use Rattle.st_eval.specs.inner.Known.{names_now}
use Rattle.st_eval.specs.inner.AtElements.{prem_height}
use Rattle.st_eval.proofs.AreMet.{ArePassed}
use Rattle.st_eval.proofs.meet.+meet.Given as goal

abbrev pub decreases-met_in : goal.decreases-met_in
decreases-met_in g l = prem_height l.premise.now

abbrev pub decreases-met_each : goal.decreases-met_each
decreases-met_each g l = 2 + prem_height l.body.now

abbrev pub decreases-at_elements : goal.decreases-at_elements
decreases-at_elements g l = 1 + prem_height l.body.now

abbrev pub invariant-at_elements-loop-at : goal.invariant-at_elements-loop-at
invariant-at_elements-loop-at g l =
    ArePassed l.setting.index.now l.setting.depth l.variables l.body (index_of l.how) (names_now l.names) (entries_of l.scope) (columns_now l.columns) l.size l.at l.found
