use Rattle.std.proofs.Common.{◌≡◌, ◌++◌, drop, List}
use Rattle.std.specs.List.{flat_map}
use Rattle.st_il.specs.declared.definition.Alternative.{Alternative}
use Rattle.st_ilcheck.specs.Declarations.{alternative_cited}
use Rattle.st_ilcheck.proofs.cited.alternatives_cited.Given as goal

abbrev pub invariant-loop-alternative : goal.invariant-loop-alternative
invariant-loop-alternative l = l.names ++ (λ (all : List Alternative). flat_map alternative_cited all) (drop l.alternative-index l.alternatives) ≡ (λ (all : List Alternative). flat_map alternative_cited all) l.alternatives
