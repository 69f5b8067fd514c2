use Rattle.st_elab_def.proofs.Declares.{declares_own}
use Rattle.st_elab_def.proofs.laws.declares_its_own.Goals as goal

pub returns : goal.returns
returns c = declares_own
