use Rattle.st_elab_def.proofs.AreNamed.{all_are_named}
use Rattle.st_elab_def.proofs.laws.names_are_declared.Goals as goal

pub returns : goal.returns
returns c = λ defs e templates is. all_are_named defs e templates is
