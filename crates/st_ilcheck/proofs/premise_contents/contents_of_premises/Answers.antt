use Rattle.st_ilcheck.proofs.ContentsLemmas.{prem-contents-start, prem-contents-next, prem-contents-end}
use Rattle.st_ilcheck.proofs.premise_contents.contents_of_premises.Goals as goal

pub loop-premise-init : goal.loop-premise-init
loop-premise-init c = prem-contents-start c.args.premises.now c.nothing-found.result c.nothing-found.ensures

pub loop-premise-preserved : goal.loop-premise-preserved
loop-premise-preserved c =
    prem-contents-next c.args.premises.now c.loop-premise.premise-index c.loop-premise.found c.loop-premise.invariant c.premise-item.result c.in_ok-more.more c.in_ok-longer.longer c.loop-premise-test.true c.premise-item.is
    c.in_ok-more.ensures c.in_ok-longer.ensures

pub returns : goal.returns
returns c = prem-contents-end c.args.premises.now c.loop-premise.premise-index c.loop-premise.found c.loop-premise.invariant c.loop-premise-test.false
