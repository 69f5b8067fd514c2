use Rattle.st_ilread.proofs.IlTexts.{il_back}
use Rattle.st_ilread.proofs.il.read_il.Goals as goal

pub returns-clause-back : goal.returns-clause-back
returns-clause-back c = il_back _ _ c.read_lines.ensures
