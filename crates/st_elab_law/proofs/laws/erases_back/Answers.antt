use Rattle.st_elab_law.proofs.Backing.{Answered-erases}
use Rattle.st_elab_law.proofs.laws.erases_back.Goals as goal

-- src/laws.rt:8:1
pub returns : goal.returns
returns c = λ il D S table q m h. Answered-erases il D S table q m h
