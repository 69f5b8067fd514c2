use Rattle.st_elab_typed.proofs.KeepsIndices.{rule_indices, clause_indices}
use Rattle.st_elab_typed.proofs.laws.elaborated_indices_stay_inside.Goals as goal

pub returns : goal.returns
returns c = record {
  rules = λ D R name conclusion premises rule h. rule_indices D R name conclusion premises rule h;
  clauses = λ D f parts clause h. clause_indices D f parts clause h;
}
