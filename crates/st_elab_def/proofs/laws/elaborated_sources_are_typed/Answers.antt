use Rattle.st_elab_def.proofs.IsTyped.{elaborated_typed}
use Rattle.st_elab_def.proofs.laws.elaborated_sources_are_typed.Goals as goal

pub returns : goal.returns
returns c = λ defs e templates repeats is. elaborated_typed defs e templates repeats is
