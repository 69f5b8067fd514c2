use Rattle.st_elab_typed.proofs.KeepsVariables.{rule_variables, clause_variables}
use Rattle.st_elab_typed.proofs.laws.elaborated_variables_are_listed.Goals as goal

pub returns : goal.returns
returns c = record {
  rules = λ D R name conclusion premises rule h. rule_variables D R name conclusion premises rule h;
  clauses = λ D f parts clause h. clause_variables D f parts clause h;
}
