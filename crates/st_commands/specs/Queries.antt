-- What `eval` says of a query over the files of a specification.
use Rattle.std.specs.Prelude.{◌≡◌, List, [], ◌∷◌, ◌++◌, ℕ, codes}
use Rattle.st_el.specs.declared.definition.Def.{Def}
use Rattle.st_elab_def.specs.declared.elaborated.Elaborated.{Elaborated}
use Rattle.st_elab_law.specs.Agreement.{decls_in}
use Rattle.st_elab_table.specs.Questions.{Breach}
use Rattle.st_il.specs.declared.definition.Il.{Il}
use Rattle.st_semantics.specs.declared.outcome.Outcome.{Outcome}
use Rattle.st_semantics.specs.declared.outcome.Outcome.TheVariants.{Val, NoValue, Deep}
use Rattle.st_term.specs.Reading.{IsQueryBreach}
use Rattle.st_term.specs.TermText.{term_text}
use Rattle.st_commands.specs.QueryOutcome.{ComesTo}
use Rattle.st_source.specs.Specification.{IsSpecification}
use Rattle.st_source.specs.Refused.{AreRefused}
use Rattle.st_answers.specs.RefusalTexts.{refused_term_text}
use Rattle.st_runs.specs.RunTexts.{depth_text}
use Rattle.st_answers.specs.declared.status.Status.{Status}
use Rattle.st_answers.specs.declared.status.Status.TheVariants as answer

-- the most calls that are open at once where a query is evaluated
-- (a name of its own: a proof that reads 200 goes down 200 calls)
unfoldable pub evaluation_depth : ℕ
evaluation_depth = 200

-- What is said where a query comes to this: its value, as a term; or that it has none; or that more
-- calls would be open at once than may be.
abbrev pub OutcomeGives : ℕ → Outcome → Status → List ℕ → Type 0
OutcomeGives depth (Val v) status bytes =
    (status ≡ answer.Done) × (bytes ≡ term_text (v ∷ []) ++ codes "\n")
OutcomeGives depth NoValue status bytes =
    (status ≡ answer.Done) × (bytes ≡ codes "no value\n")
OutcomeGives depth Deep status bytes =
    (status ≡ answer.Depth) × (bytes ≡ depth_text depth ++ codes "  value\n")

-- What is said of a query over an internal language, where so many calls may be open at once: the
-- first rule that it breaks, or what it comes to.
pub data QueryGives (il : Il) (depth : ℕ) (query : List ℕ) : Status → List ℕ → Type 0 where
  refused : {bytes : List ℕ} (b : Breach) → IsQueryBreach (decls_in il.defs) query b
      → bytes ≡ refused_term_text b.at b.rule → QueryGives il depth query answer.Term bytes
  evaluated : {status : Status} {bytes : List ℕ} (o : Outcome) → ComesTo il depth query o
      → OutcomeGives depth o status bytes → QueryGives il depth query status bytes

-- What is said of a query over the files of these names: that they are refused; or what is said of
-- it over the internal language of their specification.
pub data EvalGives (names : List (List ℕ)) (query : List ℕ) (files : List (List ℕ))
    : Status → List ℕ → Type 0 where
  unspecified : {bytes : List ℕ} → AreRefused names files bytes
      → EvalGives names query files answer.Specification bytes
  specified : {status : Status} {bytes : List ℕ} (defs : List Def) (e : Elaborated)
      → IsSpecification files defs e → QueryGives e.il evaluation_depth query status bytes
      → EvalGives names query files status bytes
