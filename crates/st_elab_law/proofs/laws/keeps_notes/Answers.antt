use Rattle.st_elab_law.proofs.NotesOfRows.{Answered-notes}
use Rattle.st_elab_law.proofs.NotesOfRules.{rule_notes, clause_notes}
use Rattle.st_elab_law.proofs.laws.keeps_notes.Goals as goal

pub returns-clause-answers : goal.returns-clause-answers
returns-clause-answers c = λ D S q m h within i. Answered-notes D S q m h i within

pub returns-clause-rules : goal.returns-clause-rules
returns-clause-rules c = λ D R name conclusion premises rule h. rule_notes D R name conclusion premises rule h

pub returns-clause-clauses : goal.returns-clause-clauses
returns-clause-clauses c = λ D f parts clause h. clause_notes D f parts clause h
