use Rattle.std.proofs.Common.{◌≡◌, drop}
use Rattle.st_il.specs.Names.{has_name}
use Rattle.st_semantics.specs.Environments.{listed_names}
use Rattle.st_ilcheck.proofs.variables.has_variable.Given as goal

abbrev pub invariant-loop-variable : goal.invariant-loop-variable
invariant-loop-variable l = has_name (listed_names l.listed) l.name ≡ has_name (listed_names (drop l.variable-index l.listed)) l.name
