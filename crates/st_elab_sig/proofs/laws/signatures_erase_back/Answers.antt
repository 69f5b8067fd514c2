use Rattle.st_elab_sig.proofs.TypesErase.{types_back}
use Rattle.st_elab_sig.proofs.NotationsErase.{signature_back}
use Rattle.st_elab_sig.proofs.ModesErase.{mode_back}
use Rattle.st_elab_sig.proofs.laws.signatures_erase_back.Goals as goal

pub returns-clause-types : goal.returns-clause-types
returns-clause-types c = types_back

pub returns-clause-notations : goal.returns-clause-notations
returns-clause-notations c = signature_back

pub returns-clause-modes : goal.returns-clause-modes
returns-clause-modes c = mode_back
