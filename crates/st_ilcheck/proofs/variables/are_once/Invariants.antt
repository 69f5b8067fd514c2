use Rattle.std.proofs.Common.{◌≡◌, drop}
use Rattle.st_semantics.specs.Environments.{listed_names}
use Rattle.st_ilcheck.specs.Naming.{is_once}
use Rattle.st_ilcheck.proofs.variables.are_once.Given as goal

abbrev pub invariant-loop-i : goal.invariant-loop-i
invariant-loop-i l = is_once (listed_names l.listed) ≡ is_once (listed_names (drop l.i l.listed))
