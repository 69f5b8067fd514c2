-- What `run` and `next` say of a relation over the files of a specification, and of a term.
use Rattle.std.specs.Prelude.{◌≡◌, ℕ, Bool, true, false, List, Some, None}
use Rattle.st_el.specs.declared.definition.Def.{Def}
use Rattle.st_elab_def.specs.declared.elaborated.Elaborated.{Elaborated}
use Rattle.st_elab_law.specs.Agreement.{decls_in}
use Rattle.st_elab_table.specs.Questions.{Breach}
use Rattle.st_il.specs.declared.definition.Il.{Il}
use Rattle.st_il.specs.declared.definition.RelationDef.{RelationDef}
use Rattle.st_il.specs.declared.ty.Ty.{Ty}
use Rattle.st_search.specs.Searchable.{HasNoOtherwise}
use Rattle.st_il.specs.Names.{Name}
use Rattle.st_il.specs.Definitions.{relation_named}
use Rattle.st_semantics.specs.Directions.{inputs_of}
use Rattle.st_semantics.specs.Goals.{AreInputs}
use Rattle.st_semantics.specs.Marks.{Mark, HasMark}
use Rattle.st_semantics.specs.Transcript.{Term}
use Rattle.st_term.specs.Reading.{IsTerm, IsTermBreach}
use Rattle.st_runs.specs.Runs.{RunSays, NextSays}
use Rattle.st_answers.specs.MarkTexts.{not_runnable_text}
use Rattle.st_source.specs.Specification.{IsSpecification}
use Rattle.st_source.specs.Refused.{AreRefused}
use Rattle.st_answers.specs.Unbuilt.{unbuilt_text}
use Rattle.st_answers.specs.RefusalTexts.{refused_term_text}
use Rattle.st_answers.specs.declared.status.Status.{Status}
use Rattle.st_answers.specs.declared.status.Status.TheVariants as answer

-- what is said of a relation from a term
abbrev pub Says : Type 1
Says = Il → Term → Status → List ℕ → Type 0

-- the relation is declared, and these are the types of its inputs
abbrev pub AreInputTypes : Il → Name → List Ty → Type 0
AreInputTypes il relation types =
    (declared : RelationDef) × (relation_named il relation ≡ Some declared)
    × (types ≡ inputs_of il relation declared.holes)

-- What is said of a relation over an internal language, and of the text of a term: the first of these
-- that is so. It is told whether the relation is to be run from term to term.
pub data RelationSays (steps : Bool) (Is : Says) (il : Il) (relation : Name) (text : List ℕ)
    : Status → List ℕ → Type 0 where
  -- the relation has a mark
  marked : {bytes : List ℕ} (mark : Mark) → HasMark il steps relation (Some mark)
      → bytes ≡ not_runnable_text relation mark
      → RelationSays steps Is il relation text answer.NotRunnable bytes
  -- so far no relation is searched where it or one that it needs has a rule with an `otherwise`
  unbuilt : {bytes : List ℕ} → HasMark il steps relation None
      → (HasNoOtherwise il relation → ⊥) → bytes ≡ unbuilt_text
      → RelationSays steps Is il relation text answer.Unbuilt bytes
  -- the text breaks a rule as a term
  refused : {bytes : List ℕ} (types : List Ty) (b : Breach) → HasMark il steps relation None
      → HasNoOtherwise il relation → AreInputTypes il relation types
      → IsTermBreach (decls_in il.defs) types text b → bytes ≡ refused_term_text b.at b.rule
      → RelationSays steps Is il relation text answer.Term bytes
  -- it is the text of a term, of the types of the inputs
  searched : {status : Status} {bytes : List ℕ} (types : List Ty) (term : Term)
      → HasMark il steps relation None → HasNoOtherwise il relation
      → AreInputTypes il relation types → IsTerm (decls_in il.defs) types text term
      → AreInputs il relation term → Is il term status bytes
      → RelationSays steps Is il relation text status bytes

-- What is said of a relation over the files of these names: that they are refused; or what is said of
-- it over the internal language of their specification.
pub data SearchGives (steps : Bool) (Is : Says) (names : List (List ℕ)) (relation : Name)
    (text : List ℕ) (files : List (List ℕ)) : Status → List ℕ → Type 0 where
  unspecified : {bytes : List ℕ} → AreRefused names files bytes
      → SearchGives steps Is names relation text files answer.Specification bytes
  specified : {status : Status} {bytes : List ℕ} (defs : List Def) (e : Elaborated)
      → IsSpecification files defs e → RelationSays steps Is e.il relation text status bytes
      → SearchGives steps Is names relation text files status bytes

-- what `run` says, with this much fuel, at this depth
abbrev pub RunGives : List (List ℕ) → Name → List ℕ → List (List ℕ) → ℕ → ℕ → Status → List ℕ
    → Type 0
RunGives names relation text files fuel depth status bytes =
    SearchGives true (λ il. RunSays il relation fuel depth) names relation text files status bytes

-- the depth to which `next` searches
-- (a name of its own: a proof that reads 200 goes down 200 calls)
unfoldable pub next_depth : ℕ
next_depth = 200

-- what `next` says
abbrev pub NextGives : List (List ℕ) → Name → List ℕ → List (List ℕ) → Status → List ℕ → Type 0
NextGives names relation text files status bytes =
    SearchGives false (λ il. NextSays il relation next_depth) names relation text files status bytes
