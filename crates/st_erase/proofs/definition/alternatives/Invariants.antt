use Rattle.std.proofs.Common.{◌≡◌, map, take}
use Rattle.st_erase.specs.Definitions.{erased_alternative}
use Rattle.st_erase.proofs.definition.alternatives.Given as goal

abbrev pub invariant-loop-alternative : goal.invariant-loop-alternative
invariant-loop-alternative l = l.found ≡ map erased_alternative (take l.alternative-index l.alternatives)
