use Rattle.st_il.specs.inner.States.{state_of}
use Rattle.st_il.proofs.ReadingLoop.{goes_on, stops}
use Rattle.st_il.proofs.reading.read_tag_parts.Goals as goal

pub returns-in_default : goal.returns-in_default
returns-in_default c =
    stops c.args.parts.now c.loop-part.part-index c.part-item.result (state_of c.loop-part.state) c.in_ok-next.field-0 c.loop-part-test.true c.loop-part.invariant c.part-item.is c.in_ok-next.ensures c.in_default.is

pub loop-part-preserved : goal.loop-part-preserved
loop-part-preserved c =
    goes_on c.args.parts.now c.loop-part.part-index c.part-item.result (state_of c.loop-part.state) c.in_ok-next.field-0 c.in-Some.next c.loop-part-test.true c.loop-part.invariant c.part-item.is c.in_ok-next.ensures c.in-Some.is
