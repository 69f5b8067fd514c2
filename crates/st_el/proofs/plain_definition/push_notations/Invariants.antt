use Rattle.std.proofs.Common.{◌≡◌, ◌++◌, map, take}
use Rattle.st_el.specs.Plain.{plain_notation}
use Rattle.st_el.proofs.plain_definition.push_notations.Given as goal

abbrev pub invariant-loop-notation : goal.invariant-loop-notation
invariant-loop-notation l = l.plain ≡ l.initial.plain ++ map plain_notation (take l.notation-index l.notations)
