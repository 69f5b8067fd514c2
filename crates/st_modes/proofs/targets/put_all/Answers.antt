use Rattle.st_modes.proofs.TargetParts.{put-none, put-next, put-end}
use Rattle.st_modes.proofs.targets.put_all.Goals as goal

pub loop-name-init : goal.loop-name-init
loop-name-init c = put-none c.args.firsts.now.entries c.args.names.now c.args.number

pub loop-name-preserved : goal.loop-name-preserved
loop-name-preserved c =
    put-next c.args.firsts.now.entries c.args.names.now c.args.number c.loop-name.firsts.entries c.put_first.new.firsts.entries c.loop-name.name-index c.name-item.result c.loop-name-test.true c.name-item.is c.loop-name.invariant
    c.in_ok-put_first.ensures

pub returns : goal.returns
returns c = put-end c.args.firsts.now.entries c.args.names.now c.args.number c.loop-name.firsts.entries c.loop-name.name-index c.loop-name-test.false c.loop-name.invariant
