use Rattle.st_commands.proofs.Derives.{least_says}
use Rattle.st_commands.proofs.step.next_rule.Goals as goal

pub returns : goal.returns
returns c = least_says c.args.small.now c.as_slice.result.now c.args.from.now c.least_step.result c.as_slice.ensures c.least_step.ensures
