use Rattle.std.proofs.Common.{◌≡◌, take, map}
use Rattle.st_elab_table.specs.Scopes.{listed}
use Rattle.st_elab_exp.proofs.scope.listed.Given as goal

abbrev pub invariant-loop-variable : goal.invariant-loop-variable
invariant-loop-variable l = l.all ≡ map listed (take l.variable-index l.scope.variables)
