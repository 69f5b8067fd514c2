-- A verifier on the way through a derivation.
use Rattle.std.specs.Prelude.{◌≡◌, ◌≢◌, ◌⊎◌, ℕ, true, false, List, [], ◌∷◌, ◌++◌, length, Some, None, MatchOption, Result, Ok, Err}
use Rattle.st_deriv.specs.declared.line.Line.{Line}
use Rattle.st_deriv.specs.LineText.{LinesText}
use Rattle.st_il.specs.declared.definition.Il.{Il}
use Rattle.st_answers.specs.declared.status.Status.{Status}
use Rattle.st_answers.specs.declared.status.Status.TheVariants as answer
use Rattle.st_answers.specs.VerdictTexts.{accepted_text, refused_text}
use Rattle.st_answers.specs.Verification.{AreLines}
use Rattle.st_verify.specs.declared.accepted.Accepted.{Accepted}
use Rattle.st_verify.specs.declared.fault.VerifyFault.{VerifyFault}
use Rattle.st_verify.specs.declared.fault.VerifyFault.TheVariants.{Refused, Memory}
use Rattle.st_semantics.specs.declared.verify_rule.VerifyRule.{VerifyRule}
use Rattle.st_semantics.specs.declared.verify_rule.VerifyRule.TheVariants.{V3, V12}
use Rattle.st_semantics.specs.declared.notes.Notes.{Notes}
use Rattle.st_semantics.specs.Accepts.{ReadsTo}
use Rattle.st_semantics.specs.Notes.{noted}
use Rattle.st_semantics.specs.Verdict.{Verdict}
use Rattle.st_verify.specs.Verifier.{Checking, refusal_by}

-- a verifier that refused nothing takes a line:
-- it is noted, or refused by the first rule that it breaks
abbrev pub TakesFirst : Checking → Line → Checking → Type 0
TakesFirst old line new =
    (Verdict old.il old.notes line None
    × (new ≡ record old { notes = noted old.il old.notes line }))
    ⊎ ((rule : VerifyRule) × Verdict old.il old.notes line (Some rule)
    × (new ≡ record old { refusal = Some (refusal_by rule old.notes) }))

-- a verifier takes a line; after a refusal it stays as it is
abbrev pub Takes : Checking → Line → Checking → Type 0
Takes old line new = MatchOption old.refusal (TakesFirst old line new) (λ fault. new ≡ old)

-- what a verifier that was given lines is: it has read them all, or it refused the first bad one
pub data HasTaken (il : Il) (lines : List Line) : Checking → Type 0 where
  going : {checking : Checking} (notes : Notes) → ReadsTo il lines notes
      → checking ≡ record { il = il; notes = notes; refusal = None } → HasTaken il lines checking
  refused : {checking : Checking} (good after : List Line) (line : Line) (notes : Notes)
      (rule : VerifyRule)
      → lines ≡ good ++ line ∷ after → ReadsTo il good notes → Verdict il notes line (Some rule)
      → checking ≡ record { il = il; notes = notes; refusal = Some (refusal_by rule notes) }
      → HasTaken il lines checking

-- it was given the lines at the front of the bytes, and this is behind them
pub record TakenTo (il : Il) (bytes : List ℕ) (checking : Checking) (rest : List ℕ) : Type 0 where
  pub lines : List Line
  pub front : List ℕ
  pub texts : LinesText lines front
  pub parts : bytes ≡ front ++ rest
  pub taken : HasTaken il lines checking

-- the bytes are not those of lines of a derivation with something behind them
abbrev pub HasNoLines : List ℕ → Type 0
HasNoLines bytes = (lines : List Line) (rest : List ℕ) → ¬ (AreLines bytes lines rest)

-- what a verifier that refused nothing says at the end, with this behind the last line feed
abbrev pub EndsNow : Checking → List ℕ → Result Accepted VerifyFault → Type 0
EndsNow old rest (Ok accepted) =
    (rest ≡ []) × (old.notes.ended ≡ true) × (accepted.lines ≡ length old.notes.lines)
    × (accepted.steps ≡ old.notes.steps)
EndsNow old rest (Err fault) =
    ((rest ≡ []) × (old.notes.ended ≡ false) × (fault ≡ refusal_by V12 old.notes))
    ⊎ ((rest ≢ []) × (fault ≡ refusal_by V3 old.notes))

-- what it says at the end: after a refusal, this refusal
abbrev pub Ends : Checking → List ℕ → Result Accepted VerifyFault → Type 0
Ends old rest result =
    MatchOption old.refusal (EndsNow old rest result) (λ fault. result ≡ Err fault)

-- the status and the text with which that is told
abbrev pub Tells : Result Accepted VerifyFault → Status → List ℕ → Type 0
Tells (Ok accepted) status bytes =
    (status ≡ answer.Done) × (bytes ≡ accepted_text accepted.lines accepted.steps)
Tells (Err (Refused rule line typing)) status bytes =
    (status ≡ answer.Verification) × (bytes ≡ refused_text line rule)
Tells (Err Memory) status bytes = ⊥
