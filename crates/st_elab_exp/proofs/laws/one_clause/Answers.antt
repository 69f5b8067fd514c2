use Rattle.st_elab_exp.proofs.Defining.{clause_one}
use Rattle.st_elab_exp.proofs.laws.one_clause.Goals as goal

pub returns : goal.returns
returns c = λ D f at parts. clause_one D f at parts
