use Rattle.st_order.proofs.HoleParts.{drop_all}
use Rattle.st_modes.proofs.TargetParts.{least-next, least-end}
use Rattle.st_modes.proofs.targets.first_of_names.Goals as goal

pub loop-name-preserved : goal.loop-name-preserved
loop-name-preserved c =
    least-next c.args.firsts.now.entries c.args.names.now c.loop-name.name-index c.name-item.result c.loop-name.found c.lesser-found.result c.number_under-number.result _ c.loop-name-test.true c.name-item.is c.loop-name.invariant
    c.number_under-number.ensures c.lesser-found.ensures

pub returns : goal.returns
returns c = least-end c.args.firsts.now.entries c.args.names.now c.loop-name.name-index c.loop-name.found _ (drop_all c.args.names.now c.loop-name.name-index c.loop-name-test.false) c.loop-name.invariant
