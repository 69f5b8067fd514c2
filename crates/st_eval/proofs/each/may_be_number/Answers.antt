use Rattle.st_eval.proofs.Counts.{HasNumber-none, HasNumber-some}
use Rattle.st_eval.proofs.each.may_be_number.Goals as goal

pub returns-in-None : goal.returns-in-None
returns-in-None c = HasNumber-none c.args.types.now c.args.variables.now c.args.name.now c.args.number c.in-None.ensures

pub returns-in-Some : goal.returns-in-Some
returns-in-Some c = HasNumber-some c.args.types.now c.args.variables.now c.args.name.now c.args.number c.in-Some.listed.now c.in-Some.ensures c.has_number.result c.has_number.ensures
