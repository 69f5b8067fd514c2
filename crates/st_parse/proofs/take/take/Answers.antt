use Rattle.st_parse.specs.inner.Work.{added_work}
use Rattle.st_parse.proofs.Works.{added_keeps}
use Rattle.st_parse.proofs.take.take.Goals as goal

pub returns : goal.returns
returns c before after h may e =
    c.turn.ensures (added_work c.args.added.now before) after (added_keeps c.args.kept.now c.args.added.now c.args.parts.now c.add.new.parts before h c.in_ok-add.ensures) may e
