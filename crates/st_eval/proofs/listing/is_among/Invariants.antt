use Rattle.std.proofs.Common.{◌≡◌, drop}
use Rattle.st_il.specs.Names.{has_name}
use Rattle.st_eval.proofs.listing.is_among.Given as goal

abbrev pub invariant-loop-other : goal.invariant-loop-other
invariant-loop-other l = has_name l.names l.name ≡ has_name (drop l.other-index l.names) l.name
