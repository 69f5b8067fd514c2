-- What is said of the texts of an internal language and of a derivation.
use Rattle.std.specs.Prelude.{◌≡◌, ◌≢◌, ℕ, zero, suc, ◌+◌, false, List, [], ◌∷◌, ◌++◌, length, Some, Contains, ◌⊎◌}
use Rattle.st_deriv.specs.declared.line.Line.{Line}
use Rattle.st_deriv.specs.declared.line.Line.TheVariants.{Step}
use Rattle.st_deriv.specs.LineText.{LinesText}
use Rattle.st_il.specs.declared.definition.Il.{Il}
use Rattle.st_il.specs.declared.type_rule.TypeRule.{TypeRule}
use Rattle.st_ilcheck.specs.Typed.{Typed, IsTypeBreach}
use Rattle.st_ilread.specs.IlReading.{IsNoIl, IsFirstNoLine}
use Rattle.st_iltext.specs.IlText.{IlText}
use Rattle.st_answers.specs.declared.status.Status.{Status}
use Rattle.st_answers.specs.declared.status.Status.TheVariants as answer
use Rattle.st_answers.specs.Unbuilt.{unbuilt_text}
use Rattle.st_answers.specs.VerdictTexts.{accepted_text, refused_text, refused_il_text, untyped_text}
use Rattle.st_il.specs.Small.{IsSmallIl}
use Rattle.st_semantics.specs.declared.notes.Notes.{Notes}
use Rattle.st_semantics.specs.declared.verify_rule.VerifyRule.{VerifyRule}
use Rattle.st_semantics.specs.declared.verify_rule.VerifyRule.TheVariants.{V1, V3, V12}
use Rattle.st_semantics.specs.Accepts.{ReadsTo, Accepts}
use Rattle.st_semantics.specs.Verdict.{Verdict}

-- The bytes are texts of lines, each ended by a line feed, and more behind them that has no line
-- feed.
pub record AreLines (bytes : List ℕ) (lines : List Line) (rest : List ℕ) : Type 0 where
  pub front : List ℕ
  pub texts : LinesText lines front
  pub rest_has_no_end : Contains rest 10 → ⊥
  pub parts : bytes ≡ front ++ rest

-- The texts are those of an internal language and of lines, with what stands behind the lines.
pub record AreTexts (il_bytes derivation : List ℕ) (il : Il) (lines : List Line)
    (rest : List ℕ) : Type 0 where
  pub language : IlText il il_bytes
  pub lines_are : AreLines derivation lines rest

-- the number of step lines
abbrev pub steps_in : List Line → ℕ
steps_in [] = zero
steps_in (Step line ∷ lines) = suc (steps_in lines)
steps_in (_ ∷ lines) = steps_in lines

-- What is said of lines and of what stands behind them:
-- that they are accepted, or the first line that is refused, and the rule that it breaks.
pub data Verified (il : Il) (lines : List Line) (rest : List ℕ) : Status → List ℕ → Type 0 where
  -- the lines are accepted, and nothing stands behind them
  accepted : {bytes : List ℕ} → Accepts IsSmallIl il lines → rest ≡ []
      → bytes ≡ accepted_text (length lines) (steps_in lines)
      → Verified il lines rest answer.Done bytes
  -- a line is the first that breaks a rule
  refused : {bytes : List ℕ} (good after : List Line) (line : Line) (notes : Notes)
      (rule : VerifyRule)
      → lines ≡ good ++ line ∷ after → ReadsTo il good notes → Verdict il notes line (Some rule)
      → bytes ≡ refused_text (length good + 1) rule
      → Verified il lines rest answer.Verification bytes
  -- no line breaks a rule, and behind them stand bytes without a line feed
  unfinished : {bytes : List ℕ} (notes : Notes) → ReadsTo il lines notes → rest ≢ []
      → bytes ≡ refused_text (length lines + 1) V3
      → Verified il lines rest answer.Verification bytes
  -- no line breaks a rule, and none is an end line
  endless : {bytes : List ℕ} (notes : Notes) → ReadsTo il lines notes → notes.ended ≡ false
      → rest ≡ []
      → bytes ≡ refused_text (length lines + 1) V12
      → Verified il lines rest answer.Verification bytes

-- ---- files

-- So far no derivation is judged over an internal language that no small specification means, and
-- none whose lines are not all texts of lines.
abbrev pub IsUnjudged : Il → List ℕ → Type 0
IsUnjudged il derivation =
    (IsSmallIl il → ⊥) ⊎ ((lines : List Line) (rest : List ℕ) → AreLines derivation lines rest → ⊥)

-- What `verify` answers of the bytes of its two files.
pub data VerifyGives (il_bytes derivation : List ℕ) : Status → List ℕ → Type 0 where
  -- the first is the text of no internal language, and this is its first line that is none
  malformed : {bytes : List ℕ} (line : ℕ) → IsNoIl il_bytes → IsFirstNoLine il_bytes line
      → bytes ≡ refused_il_text line V1
      → VerifyGives il_bytes derivation answer.Verification bytes
  -- it is the text of an internal language, of which this definition, by its number from 0, is the
  -- first that breaks a rule on types, and this the least that it breaks: its line is named
  untyped : {bytes : List ℕ} (il : Il) (place : ℕ) (rule : TypeRule) → IlText il il_bytes
      → IsTypeBreach il place rule → bytes ≡ untyped_text (place + 1) rule
      → VerifyGives il_bytes derivation answer.Verification bytes
  -- they are the texts of an internal language that is typed, and of lines: these are accepted, or
  -- one is refused
  judged : {status : Status} {bytes : List ℕ} (il : Il) (lines : List Line) (rest : List ℕ)
      → Typed il → IsSmallIl il → AreTexts il_bytes derivation il lines rest
      → Verified il lines rest status bytes
      → VerifyGives il_bytes derivation status bytes
  -- the first is the text of an internal language that is typed, and the second is not judged
  -- over it
  unjudged : {bytes : List ℕ} (il : Il) → IlText il il_bytes → Typed il
      → IsUnjudged il derivation → bytes ≡ unbuilt_text
      → VerifyGives il_bytes derivation answer.Unbuilt bytes

-- the most bytes of a text that the program itself prints: of an internal language or a derivation
abbrev pub text_limit : ℕ
text_limit = 67108864
