use Rattle.std.proofs.Common.{take}
use Rattle.st_order.specs.inner.Index.{names_in}
use Rattle.st_modes.specs.inner.Reaching.{Grows}
use Rattle.st_modes.proofs.reaching.grow.Given as goal

abbrev pub invariant-loop-name : goal.invariant-loop-name
invariant-loop-name l = Grows (names_in l.initial.found.keys) (names_in (take l.name-index l.more)) (names_in l.found.keys)
