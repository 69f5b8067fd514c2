use Rattle.std.proofs.Common.{◌≡◌, ◌++◌, map, take}
use Rattle.st_deps.specs.Cited.{in_all, prem_names}
use Rattle.st_deps.proofs.definition.add_prems.Given as goal

abbrev pub invariant-loop-prem : goal.invariant-loop-prem
invariant-loop-prem l = l.names ≡ l.initial.names ++ in_all (map prem_names (take l.prem-index l.prems))
