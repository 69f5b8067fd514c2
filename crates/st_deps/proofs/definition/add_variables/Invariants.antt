use Rattle.std.proofs.Common.{◌≡◌, ◌++◌, map, take}
use Rattle.st_deps.specs.Cited.{in_all}
use Rattle.st_deps.specs.Definitions.{variable_names}
use Rattle.st_deps.proofs.definition.add_variables.Given as goal

abbrev pub invariant-loop-variable : goal.invariant-loop-variable
invariant-loop-variable l = l.names ≡ l.initial.names ++ in_all (map variable_names (take l.variable-index l.variables))
