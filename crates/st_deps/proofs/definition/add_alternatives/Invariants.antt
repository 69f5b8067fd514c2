use Rattle.std.proofs.Common.{◌≡◌, ◌++◌, map, take}
use Rattle.st_deps.specs.Cited.{in_all}
use Rattle.st_deps.specs.Definitions.{alternative_names}
use Rattle.st_deps.proofs.definition.add_alternatives.Given as goal

abbrev pub invariant-loop-alternative : goal.invariant-loop-alternative
invariant-loop-alternative l = l.names ≡ l.initial.names ++ in_all (map alternative_names (take l.alternative-index l.alternatives))
