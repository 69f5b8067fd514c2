use Rattle.st_elab_exp.proofs.Defining.{rule_one}
use Rattle.st_elab_exp.proofs.laws.one_rule.Goals as goal

pub returns : goal.returns
returns c = λ D R name conclusion premises. rule_one D R name conclusion premises
