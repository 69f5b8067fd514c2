use Rattle.std.proofs.Common.{◌≡◌, take}
use Rattle.st_elab_table.specs.Iterations.{iterated_in}
use Rattle.st_elab_rows.proofs.iteration.iterated.Given as goal

abbrev pub invariant-loop-variable : goal.invariant-loop-variable
invariant-loop-variable g l =
    l.names ≡ iterated_in (take l.variable-index l.scope.variables) l.depth l.inner.indices (g.P.HasVariables.occurs l.body)
