use Rattle.st_modes.proofs.CiterParts.{knows_more, knows_end}
use Rattle.st_modes.proofs.citers.citers_of.Goals as goal

pub loop-definition-preserved : goal.loop-definition-preserved
loop-definition-preserved c =
    knows_more c.loop-definition.citers c.add_citer.new.citers c.args.defs.now c.loop-definition.definition-index c.definition-item.result c.loop-definition-test.true c.definition-item.is
    c.loop-definition.invariant c.in_ok-add_citer.ensures.new c.in_ok-add_citer.ensures.old

pub returns : goal.returns
returns c = knows_end c.loop-definition.citers c.args.defs.now c.loop-definition.definition-index c.loop-definition-test.false c.loop-definition.invariant
