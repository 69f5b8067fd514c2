use Rattle.st_eval.proofs.TestOutcomes.{tested_is}
use Rattle.st_eval.proofs.condition.tested.Goals as goal

pub returns : goal.returns
returns g c = λ bound p is known only.
    tested_is c.args.setting.now.index.now c.requires.setting.single c.args.setting.now.depth bound c.args.variables.now c.args.env.now p c.args.exp.now c.in_ok-outcome.outcome c.in_ok-met.met is known only
    c.in_ok-outcome.ensures c.in_ok-met.ensures
