use Rattle.st_elab_table.proofs.Single.{Answered-single}
use Rattle.st_elab_table.proofs.laws.one_answer.Goals as goal

pub returns : goal.returns
returns c = Answered-single
