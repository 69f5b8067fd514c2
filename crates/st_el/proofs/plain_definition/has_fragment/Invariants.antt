use Rattle.std.proofs.Common.{◌≡◌, take, false}
use Rattle.std.specs.List.{list_any}
use Rattle.st_el.specs.Erasure.{is_fragment}
use Rattle.st_el.proofs.plain_definition.has_fragment.Given as goal

abbrev pub invariant-loop-def : goal.invariant-loop-def
invariant-loop-def l = list_any (is_fragment l.name) (take l.def-index l.defs) ≡ false
