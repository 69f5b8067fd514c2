use Rattle.st_elab_def.proofs.ErasesTo.{ErasesTo-elaborated}
use Rattle.st_elab_def.proofs.laws.erases_back.Goals as goal

pub returns : goal.returns
returns c = ErasesTo-elaborated
