-- What is asked of a relation, what must hold of a question, and how the fault of a term is told.
use Rattle.std.specs.Prelude.{◌≡◌, ℕ, ◌≤◌, Bool, true, false, List, Some, None}
use Rattle.st_num.specs.declared.fault.Fault.{Fault}
use Rattle.st_num.specs.declared.fault.Fault.TheVariants.{Refused, Memory}
use Rattle.st_il.specs.declared.definition.Il.{Il}
use Rattle.st_il.specs.declared.definition.RelationDef.{RelationDef}
use Rattle.st_elab_law.specs.Agreement.{decls_in}
use Rattle.st_search.specs.Proper.{IsProper}
use Rattle.st_search.specs.Searchable.{HasNoOtherwise}
use Rattle.st_il.specs.Definitions.{relation_named}
use Rattle.st_semantics.specs.Marks.{HasMark}
use Rattle.st_il.specs.Names.{Name}
use Rattle.st_semantics.specs.Transcript.{Term}
use Rattle.st_commands.specs.declared.searches.Asked.{Asked}
use Rattle.st_commands.specs.declared.searches.Asked.TheVariants.{Next, Run}
use Rattle.st_answers.specs.declared.status.Status.{Status}
use Rattle.st_answers.specs.declared.status.Status.TheVariants as answer
use Rattle.st_commands.specs.declared.searches.Question.{Question}
use Rattle.st_runs.specs.Runs.{RunSays, NextSays}
use Rattle.st_commands.specs.Searches.{RelationSays}
use Rattle.st_source.specs.inner.Specifying.{IsAccepted}
use Rattle.st_answers.specs.RefusalTexts.{refused_term_text}

-- whether the relation is to be run from term to term
abbrev pub asks_steps : Asked → Bool
asks_steps (Next depth) = false
asks_steps (Run fuel depth) = true

-- the depth to which goals are followed
abbrev pub depth_of : Asked → ℕ
depth_of (Next depth) = depth
depth_of (Run fuel depth) = depth

-- what is said of a relation from a term
abbrev pub asked_says : Asked → Name → Il → Term → Status → List ℕ → Type 0
asked_says (Next depth) relation il term status bytes =
    NextSays il relation depth term status bytes
asked_says (Run fuel depth) relation il term status bytes =
    RunSays il relation fuel depth term status bytes

-- It is asked of a language that breaks no rule, whose numbers and texts are those of values, with
-- its own modes and declarations, to a depth of at least 1.
pub record CanBeAsked (q : Question) : Type 0 where
  pub accepted : IsAccepted q.il.now q.modes.now
  pub proper : IsProper q.il.now
  pub decls : q.decls.now ≡ decls_in q.il.now.defs
  pub depth : 1 ≤ depth_of q.asked

-- the relation has no mark, and no rule of it or of one that it needs has an `otherwise`
pub record CanBeSearched (q : Question) : Type 0 where
  pub mark : HasMark q.il.now (asks_steps q.asked) q.relation.now None
  pub plain : HasNoOtherwise q.il.now q.relation.now

-- what is said of the relation, and of the text of a term
abbrev pub QuestionSays : Question → List ℕ → Status → List ℕ → Type 0
QuestionSays q text status bytes =
    RelationSays (asks_steps q.asked) (asked_says q.asked q.relation.now) q.il.now q.relation.now
    text status bytes

-- a relation of this name is declared
abbrev pub IsDeclared : Il → Name → Type 0
IsDeclared il relation = (declared : RelationDef) × (relation_named il relation ≡ Some declared)

-- the fault of a term is told by its place and its rule; want of memory is told otherwise
abbrev pub TellsTermFault : Fault → Status → List ℕ → Type 0
TellsTermFault (Refused at rule) status bytes =
    (status ≡ answer.Term) × (bytes ≡ refused_term_text at rule)
TellsTermFault Memory status bytes = ⊥
