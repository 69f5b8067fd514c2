use Rattle.std.proofs.Common.{take}
use Rattle.st_order.specs.Known.{all_now}
use Rattle.st_modes.specs.inner.Marking.{HasTold}
use Rattle.st_modes.proofs.marking.tell_all.Given as goal

abbrev pub invariant-loop-relation : goal.invariant-loop-relation
invariant-loop-relation l = HasTold l.indexed.directions.il.now (all_now (take l.relation-index l.relations)) l.told
