use Rattle.std.proofs.Common.{◌≡◌, map, take}
use Rattle.st_el.specs.Plain.{plain_prem}
use Rattle.st_el.proofs.plain_parts.plain_prems.Given as goal

abbrev pub invariant-loop-prem : goal.invariant-loop-prem
invariant-loop-prem l = l.plain ≡ map plain_prem (take l.prem-index l.prems)
