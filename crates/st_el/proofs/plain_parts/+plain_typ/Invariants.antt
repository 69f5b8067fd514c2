use Rattle.std.proofs.Common.{◌≡◌, map, take}
use Rattle.st_el.specs.Plain.{plain_typ}
use Rattle.st_el.proofs.plain_parts.+plain_typ.Given as goal

abbrev pub invariant-plain_typs-loop-typ : goal.invariant-plain_typs-loop-typ
invariant-plain_typs-loop-typ l = l.plain ≡ map plain_typ (take l.typ-index l.typs)
