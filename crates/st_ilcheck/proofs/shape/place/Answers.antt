use Rattle.st_il.specs.Definitions.{syntaxes}
use Rattle.st_ilcheck.proofs.Paths.{place-stops, place-goes, place-ends}
use Rattle.st_ilcheck.proofs.shape.place.Goals as goal

pub returns-in-None : goal.returns-in-None
returns-in-None c =
    place-stops (syntaxes c.args.language.now) c.args.path.now c.args.ty.now c.loop-segment.here.now c.loop-segment.segment-index c.loop-segment.invariant c.segment-item.result c.loop-segment-test.true c.segment-item.is c.in-None.ensures

pub loop-segment-preserved : goal.loop-segment-preserved
loop-segment-preserved c =
    place-goes (syntaxes c.args.language.now) c.args.path.now c.args.ty.now c.loop-segment.here.now c.loop-segment.segment-index c.loop-segment.invariant c.segment-item.result c.loop-segment-test.true c.segment-item.is c.in-Some.next.now c.in-Some.ensures

pub returns : goal.returns
returns c = place-ends (syntaxes c.args.language.now) c.args.path.now c.args.ty.now c.loop-segment.here.now c.loop-segment.segment-index c.loop-segment.invariant c.loop-segment-test.false
