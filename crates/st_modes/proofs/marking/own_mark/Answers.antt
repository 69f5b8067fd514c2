use Rattle.st_modes.proofs.HasTold.{own_by_functions}
use Rattle.st_modes.proofs.marking.own_mark.Goals as goal

pub returns-in_ok-mark-in-None : goal.returns-in_ok-mark-in-None
returns-in_ok-mark-in-None c =
    own_by_functions c.args.indexed.now.directions.il.now c.args.relation.now c.args.mark c.in_ok-mark-in-None.mark c.requires.mark c.in-None.is c.in_ok-mark-in-None.ensures
