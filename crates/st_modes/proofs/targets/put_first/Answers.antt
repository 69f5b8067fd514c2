use Rattle.st_modes.proofs.TargetParts.{put-new}
use Rattle.st_modes.proofs.targets.put_first.Goals as goal

pub returns : goal.returns
returns c = put-new c.args.firsts.now.entries c.put.new.map.entries c.args.name.now c.args.number c.at.result c.is_some.result c.at.ensures c.is_some.ensures c.if-is_some.false c.in_ok-put.ensures
