use Rattle.st_text.proofs.Unique.{one_front, no_front_of_another}
use Rattle.st_text.proofs.law.texts_end.Goals as goal

pub returns-clause-front : goal.returns-clause-front
returns-clause-front c = one_front

pub returns-clause-no_front : goal.returns-clause-no_front
returns-clause-no_front c = no_front_of_another
