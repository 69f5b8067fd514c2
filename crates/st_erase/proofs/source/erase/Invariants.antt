use Rattle.std.proofs.Common.{◌≡◌, map, take}
use Rattle.st_erase.specs.Definitions.{erased_def}
use Rattle.st_erase.proofs.source.erase.Given as goal

abbrev pub invariant-loop-def : goal.invariant-loop-def
invariant-loop-def l = l.found ≡ map (erased_def l.defs) (take l.def-index l.defs)
