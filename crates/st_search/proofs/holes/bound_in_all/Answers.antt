use Rattle.st_match.proofs.FitAll.{formed_at}
use Rattle.st_search.proofs.holes.bound_in_all.Goals as goal

pub variables-requires : goal.variables-requires
variables-requires c = (c.requires.0, formed_at c.requires.0 c.args.exps.now c.loop-exp.exp-index c.exp-item.result c.loop-exp-test.true c.exp-item.is c.requires.1)
