use Rattle.st_elab_def.proofs.EachDefinition.{elaborated_variables}
use Rattle.st_elab_def.proofs.laws.variables_are_listed.Goals as goal

pub returns : goal.returns
returns c = λ defs e is. elaborated_variables defs e is
