use Rattle.st_elab_def.proofs.EachDefinition.{elaborated_indices}
use Rattle.st_elab_def.proofs.laws.indices_stay_inside.Goals as goal

pub returns : goal.returns
returns c = λ defs e is. elaborated_indices defs e is
