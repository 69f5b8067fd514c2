use Rattle.st_modes.proofs.HasTold.{tells_none}
use Rattle.st_modes.proofs.marking.tell_all.Goals as goal

pub loop-relation-init : goal.loop-relation-init
loop-relation-init c = tells_none c.args.indexed.now.directions.il.now _ c.new.ensures c.new-2.ensures c.new-3.ensures
