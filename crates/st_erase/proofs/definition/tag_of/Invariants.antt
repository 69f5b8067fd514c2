use Rattle.std.proofs.Common.{◌≡◌, drop}
use Rattle.st_erase.specs.Definitions.{tag_of}
use Rattle.st_erase.proofs.definition.tag_of.Given as goal

abbrev pub invariant-loop-def : goal.invariant-loop-def
invariant-loop-def l = tag_of l.name l.defs ≡ tag_of l.name (drop l.def-index l.defs)
