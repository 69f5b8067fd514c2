use Rattle.std.proofs.Common.{◌≡◌, ◌++◌, map, take}
use Rattle.st_el.specs.Plain.{plain_notation}
use Rattle.st_el.specs.Erasure.{alternatives}
use Rattle.st_el.proofs.plain_definition.push_fragments.Given as goal

abbrev pub invariant-loop-def : goal.invariant-loop-def
invariant-loop-def l = l.plain ≡ l.initial.plain ++ map plain_notation (alternatives l.name (take l.def-index l.defs))
