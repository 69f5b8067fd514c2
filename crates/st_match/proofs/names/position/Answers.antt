use Rattle.std.proofs.Common.{sym}
use Rattle.st_match.proofs.InOrder.{stands-before, stands-there, stands-last, before-more}
use Rattle.st_match.proofs.names.position.Goals as goal

pub loop-i-preserved : goal.loop-i-preserved
loop-i-preserved c =
    before-more c.args.name.now c.args.names.now c.loop-i.i c.index-names-i.result c.loop-i-test.true c.index-names-i.is (sym c.in-Greater.ensures) c.loop-i.invariant

pub returns-in-Less : goal.returns-in-Less
returns-in-Less c =
    stands-before c.args.name.now c.args.names.now c.loop-i.i c.index-names-i.result c.loop-i-test.true c.index-names-i.is c.loop-i.invariant (sym c.in-Less.ensures)

pub returns-in-Equal : goal.returns-in-Equal
returns-in-Equal c =
    stands-there c.args.name.now c.args.names.now c.loop-i.i c.index-names-i.result c.loop-i-test.true c.index-names-i.is (sym c.in-Equal.ensures)

pub returns : goal.returns
returns c = stands-last c.args.name.now c.args.names.now c.loop-i.i c.loop-i-test.false c.loop-i.invariant
