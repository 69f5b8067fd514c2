use Rattle.st_match.proofs.Asked.{asked-none, asked-some}
use Rattle.st_match.proofs.types.has_asked.Goals as goal

pub returns-in-None : goal.returns-in-None
returns-in-None c = asked-none c.args.types.now c.args.env.now c.args.asked.now c.in-None.ensures

pub returns-in-Some : goal.returns-in-Some
returns-in-Some c = asked-some c.args.types.now c.args.env.now c.args.asked.now c.in-Some.value.now c.is_typed_value.result c.in-Some.ensures c.is_typed_value.ensures
