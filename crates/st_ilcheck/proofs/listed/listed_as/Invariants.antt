use Rattle.std.proofs.Common.{◌≡◌, drop}
use Rattle.st_semantics.specs.Environments.{listed_as}
use Rattle.st_ilcheck.proofs.listed.listed_as.Given as goal

abbrev pub invariant-loop-variable : goal.invariant-loop-variable
invariant-loop-variable l = listed_as l.name l.listed ≡ listed_as l.name (drop l.variable-index l.listed)
