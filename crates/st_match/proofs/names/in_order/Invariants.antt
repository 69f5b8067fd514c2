use Rattle.std.proofs.Common.{take}
use Rattle.st_match.specs.inner.Names.{AreOrdered}
use Rattle.st_match.proofs.names.in_order.Given as goal

abbrev pub invariant-loop-name : goal.invariant-loop-name
invariant-loop-name l = AreOrdered (take l.name-index l.names) l.all
