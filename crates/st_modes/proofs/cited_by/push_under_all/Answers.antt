use Rattle.st_modes.proofs.CitedByParts.{under-none, under-next, under-all}
use Rattle.st_modes.proofs.cited_by.push_under_all.Goals as goal

pub loop-key-init : goal.loop-key-init
loop-key-init c = under-none c.args.found.now.entries c.args.keys.now c.args.name.now

pub loop-key-preserved : goal.loop-key-preserved
loop-key-preserved c =
    under-next c.args.found.now.entries c.loop-key.found.entries c.push_under.new.found.entries c.args.keys.now c.loop-key.key-index c.key-item.result c.args.name.now c.loop-key-test.true c.key-item.is c.loop-key.invariant
    c.in_ok-push_under.ensures

pub returns : goal.returns
returns c = under-all c.args.found.now.entries c.loop-key.found.entries c.args.keys.now c.loop-key.key-index c.args.name.now c.loop-key-test.false c.loop-key.invariant
