use Rattle.st_match.proofs.InOrder.{ordered-begin, ordered-more, ordered-end}
use Rattle.st_match.proofs.names.in_order.Goals as goal

pub loop-name-init : goal.loop-name-init
loop-name-init c = ordered-begin c.args.names.now c.new-all.result c.new-all.ensures

pub loop-name-preserved : goal.loop-name-preserved
loop-name-preserved c =
    ordered-more c.args.names.now c.loop-name.name-index c.name-item.result c.loop-name.all c.in_ok-all.all c.loop-name-test.true c.name-item.is c.loop-name.invariant c.in_ok-all.ensures

pub returns : goal.returns
returns c = ordered-end c.args.names.now c.loop-name.all c.loop-name.name-index c.loop-name-test.false c.loop-name.invariant
