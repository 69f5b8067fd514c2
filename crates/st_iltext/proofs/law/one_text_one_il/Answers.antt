use Rattle.st_iltext.proofs.IlSame.{one_il_text, one_il}
use Rattle.st_iltext.proofs.law.one_text_one_il.Goals as goal

pub returns-clause-text : goal.returns-clause-text
returns-clause-text c = one_il_text

pub returns-clause-il : goal.returns-clause-il
returns-clause-il c = one_il
