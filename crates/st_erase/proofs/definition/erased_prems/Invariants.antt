use Rattle.std.proofs.Common.{◌≡◌, map, take}
use Rattle.st_erase.specs.Definitions.{erased_prem}
use Rattle.st_erase.proofs.definition.erased_prems.Given as goal

abbrev pub invariant-loop-premise : goal.invariant-loop-premise
invariant-loop-premise l = l.found ≡ map (erased_prem l.eraser.defs.now) (take l.premise-index l.premises)
