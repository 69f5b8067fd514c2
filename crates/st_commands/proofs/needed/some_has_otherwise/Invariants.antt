use Rattle.std.proofs.Common.{◌≡◌, drop}
use Rattle.st_order.specs.Known.{all_now}
use Rattle.st_commands.specs.inner.Needing.{some_has_otherwise}
use Rattle.st_commands.proofs.needed.some_has_otherwise.Given as goal

abbrev pub invariant-loop-i : goal.invariant-loop-i
invariant-loop-i l = some_has_otherwise (all_now l.rules) ≡ some_has_otherwise (all_now (drop l.i l.rules))
