use Rattle.st_ilcheck.proofs.Made.{prems-next, prems-end}
use Rattle.st_ilcheck.proofs.premises.broken_in_premises.Goals as goal

pub loop-premise-preserved : goal.loop-premise-preserved
loop-premise-preserved c =
    prems-next c.args.language.now c.args.listed.now c.args.premises.now c.loop-premise.premise-index c.loop-premise.broken c.loop-premise.invariant c.premise-item.result c.in_ok-more.more c.in_ok-longer.longer
    c.loop-premise-test.true c.premise-item.is c.in_ok-more.ensures c.in_ok-longer.ensures

pub returns : goal.returns
returns c = prems-end c.args.language.now c.args.listed.now c.args.premises.now c.loop-premise.premise-index c.loop-premise.broken c.loop-premise.invariant c.loop-premise-test.false
