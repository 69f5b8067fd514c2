use Rattle.std.proofs.Common.{◌≡◌, map, take}
use Rattle.st_el.specs.Plain.{plain_notation}
use Rattle.st_el.proofs.plain_parts.+plain_notation.Given as goal

abbrev pub invariant-plain_notations-loop-notation : goal.invariant-plain_notations-loop-notation
invariant-plain_notations-loop-notation l = l.plain ≡ map plain_notation (take l.notation-index l.notations)
