use Rattle.std.proofs.Common.{◌≡◌, map, drop}
use Rattle.st_term.specs.Foreign.{first_place, open_place}
use Rattle.st_term.proofs.open.first_place.Given as goal

abbrev pub invariant-loop-mention : goal.invariant-loop-mention
invariant-loop-mention l = first_place (map open_place l.mentions) ≡ first_place (map open_place (drop l.mention-index l.mentions))
