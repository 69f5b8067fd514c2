use Rattle.std.proofs.Common.{◌≡◌, ◌-◌, length, drop}
use Rattle.std.specs.Option.{option_copied}
use Rattle.st_il.specs.Names.{least}
use Rattle.st_order.specs.inner.Index.{names_in}
use Rattle.st_order.proofs.least.least.Given as goal

abbrev pub invariant-loop-i : goal.invariant-loop-i
invariant-loop-i l = option_copied l.found ≡ least (names_in (drop (length l.names - l.i) l.names))
