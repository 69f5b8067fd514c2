-- No question is without an answer.
use Rattle.st_type_table.specs.Breach.{IsSound}
use Rattle.st_elab_table.specs.declared.decls.Decls.{Decls}
use Rattle.st_elab_table.specs.declared.decls.Scope.{Scope}
use Rattle.st_elab_table.specs.Questions.{Question, Answer}
use Rattle.st_elab_table.specs.Elaboration.{Answered}

-- the question is not without an answer
abbrev pub HasAnswer : Decls → Scope → Question → Type 0
HasAnswer D S q = ((a : Answer) → Answered D S q a → ⊥) → ⊥

-- Where the declared types break no rule, no question is without an answer.
abbrev pub EachIsAnswered : Type 0
EachIsAnswered = (D : Decls) (S : Scope) → IsSound D.types → (q : Question) → HasAnswer D S q
