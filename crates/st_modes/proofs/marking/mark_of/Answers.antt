use Rattle.st_modes.proofs.HasTold.{mark_by_own, mark_by_needs}
use Rattle.st_modes.proofs.marking.mark_of.Goals as goal

pub returns-in_ok-copy_mark-in-Some : goal.returns-in_ok-copy_mark-in-Some
returns-in_ok-copy_mark-in-Some c =
    mark_by_own c.args.indexed.now.directions.il.now c.args.own.now.relation.now c.args.own.now.mark c.in-Some.mark c.in_ok-copy_mark-in-Some.field-0 c.requires.own c.in-Some.is
    c.in_ok-copy_mark-in-Some.ensures

pub returns-in_ok-mark-in-None : goal.returns-in_ok-mark-in-None
returns-in_ok-mark-in-None c =
    mark_by_needs c.args.indexed.now.directions.il.now c.args.own.now.relation.now c.args.own.now.mark c.in_ok-mark-in-None.mark c.requires.own c.in-None.is c.in_ok-mark-in-None.ensures
