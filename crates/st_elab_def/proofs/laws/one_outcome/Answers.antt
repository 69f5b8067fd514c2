use Rattle.st_elab_def.proofs.Single.{IsElaborated-single, IsBreach-single, IsElaborated-IsBreach}
use Rattle.st_elab_def.proofs.laws.one_outcome.Goals as goal

pub returns : goal.returns
returns c = λ defs. record { one = IsElaborated-single defs; one_breach = IsBreach-single defs; not_both = IsElaborated-IsBreach defs }
