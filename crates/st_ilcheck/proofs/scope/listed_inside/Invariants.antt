use Rattle.std.proofs.Common.{◌≡◌, ◌++◌, drop}
use Rattle.st_semantics.specs.Scopes.{stepped_all, listed_inside}
use Rattle.st_ilcheck.proofs.scope.listed_inside.Given as goal

abbrev pub invariant-loop-variable : goal.invariant-loop-variable
invariant-loop-variable l =
    l.inside ++ stepped_all l.names (drop l.variable-index l.listed) ≡ listed_inside l.how l.names l.listed
