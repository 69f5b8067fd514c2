use Rattle.std.proofs.Common.{◌≡◌, drop}
use Rattle.st_il.specs.Names.{has_name}
use Rattle.st_ilcheck.proofs.listed.has_name.Given as goal

abbrev pub invariant-loop-other : goal.invariant-loop-other
invariant-loop-other l = has_name l.names l.name ≡ has_name (drop l.other-index l.names) l.name
