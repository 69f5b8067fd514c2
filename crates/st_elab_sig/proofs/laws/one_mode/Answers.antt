use Rattle.st_elab_sig.proofs.ModesLemmas.{IsMode-single}
use Rattle.st_elab_sig.proofs.laws.one_mode.Goals as goal

pub returns : goal.returns
returns c = IsMode-single
