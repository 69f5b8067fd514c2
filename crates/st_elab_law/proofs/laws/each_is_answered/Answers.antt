use Rattle.st_elab_law.proofs.HasAnswer.{each-answered}
use Rattle.st_elab_law.proofs.laws.each_is_answered.Goals as goal

pub returns : goal.returns
returns c = each-answered
