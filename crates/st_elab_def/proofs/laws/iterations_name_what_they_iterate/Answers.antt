use Rattle.st_elab_def.proofs.EachDefinition.{elaborated_names}
use Rattle.st_elab_def.proofs.laws.iterations_name_what_they_iterate.Goals as goal

pub returns : goal.returns
returns c = λ defs e repeats is. elaborated_names defs e repeats is
