use Rattle.st_modes.proofs.HasTold.{marks_next}
use Rattle.st_modes.proofs.marking.marks_of.Goals as goal

pub loop-own-preserved : goal.loop-own-preserved
loop-own-preserved c =
    marks_next c.args.indexed.now.directions.il.now c.args.owns.now c.loop-own.own-index c.own-item.result c.loop-own.marks c.push.new.self c.in_ok-mark_of.field-0 c.loop-own-test.true c.own-item.is
    c.loop-own.invariant c.in_ok-mark_of.ensures c.in_ok-push.ensures.ok
