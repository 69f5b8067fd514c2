use Rattle.st_modes.proofs.FewParts.{few_rule}
use Rattle.st_modes.proofs.moding.has_few_premises.Goals as goal

pub returns-in-Rule : goal.returns-in-Rule
returns-in-Rule c = few_rule c.args.definition.now c.in-Rule.rule c.are_few.result c.len.result c.in-Rule.is c.len.ensures c.are_few.ensures
