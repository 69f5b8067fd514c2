use Rattle.st_elab_typed.proofs.CitesKnown.{rule_cites, clause_cites}
use Rattle.st_elab_typed.proofs.laws.elaborated_names_are_declared.Goals as goal

pub returns : goal.returns
returns c = record {
  rules = λ D R name conclusion premises rule known declared h. rule_cites D R name conclusion premises rule known declared h;
  clauses = λ D f parts clause known declared h. clause_cites D f parts clause known declared h;
}
