use Rattle.std.proofs.Common.{◌≡◌, map, filter, take}
use Rattle.st_el.specs.Erasure.{plain_hint, is_mode}
use Rattle.st_el.proofs.plain_definition.plain_modes.Given as goal

abbrev pub invariant-loop-hint : goal.invariant-loop-hint
invariant-loop-hint l = l.plain ≡ map plain_hint (filter is_mode (take l.hint-index l.hints))
