use Rattle.std.proofs.Common.{◌≡◌, drop}
use Rattle.st_ilcheck.specs.Naming.{is_once}
use Rattle.st_ilcheck.proofs.naming.is_once.Given as goal

abbrev pub invariant-loop-i : goal.invariant-loop-i
invariant-loop-i l = is_once l.names ≡ is_once (drop l.i l.names)
