use Rattle.st_elab_typed.proofs.KeepsNames.{rule_names, clause_names}
use Rattle.st_elab_typed.proofs.laws.elaborated_iterations_name_what_they_iterate.Goals as goal

pub returns : goal.returns
returns c = record {
  rules = λ D R name conclusion premises rule r h. rule_names D R name conclusion premises rule r h;
  clauses = λ D f parts clause r h. clause_names D f parts clause r h;
}
