-- What a verifier answers, and what it is then.
use Rattle.std.specs.Prelude.{◌≡◌, ◌⊎◌, ℕ, List, ◌+◌, ◌≤◌, ◌^◌, true, false, length, Contains, Option, Some, None, MatchOption, Result, Ok, Err}
use Rattle.st_deriv.specs.declared.line.Line.{Line}
use Rattle.st_deriv.specs.LineText.{LineText}
use Rattle.st_deriv.specs.LineText.{IsNoLine}
use Rattle.st_il.specs.declared.definition.Il.{Il}
use Rattle.st_il.specs.Small.{IsSmallIl}
use Rattle.st_verify.specs.declared.accepted.Accepted.{Accepted}
use Rattle.st_verify.specs.declared.fault.VerifyFault.{VerifyFault}
use Rattle.st_verify.specs.declared.fault.VerifyFault.TheVariants.{Refused, Memory}
use Rattle.st_semantics.specs.declared.notes.Judgement.{Judgement}
use Rattle.st_semantics.specs.declared.notes.Notes.{Notes}
use Rattle.st_semantics.specs.declared.verify_rule.VerifyRule.{VerifyRule}
use Rattle.st_semantics.specs.declared.verify_rule.VerifyRule.TheVariants.{V3, V12}
use Rattle.st_semantics.specs.Derivation.{HasTree}
use Rattle.st_semantics.specs.Notes.{noted}
use Rattle.st_semantics.specs.Verdict.{Verdict}

-- A verifier as its callers see it:
-- the internal language, what is noted of the lines, and the refusal that it gave, if any.
pub record Checking : Type 0 where
  pub il : Il
  pub notes : Notes
  pub refusal : Option VerifyFault

-- What a verifier keeps: each judgement that it noted has a valid tree.
pub record IsKept (il : Il) (notes : Notes) : Type 0 where
  pub small : IsSmallIl il
  pub judged : (judgement : Judgement) → Contains notes.lines (Some judgement)
      → HasTree il judgement.relation judgement.values
  pub few : length notes.lines ≤ 2 ^ 32
  pub few_steps : notes.steps ≤ length notes.lines

-- the refusal of the next line by a rule
abbrev pub refusal_by : VerifyRule → Notes → VerifyFault
refusal_by rule notes = Refused rule (length notes.lines + 1) None

-- the refusal of the next line by a rule is given, and kept
abbrev pub Refuses : {V : Type 0} → VerifyRule → Checking → Result V VerifyFault → Checking → Type 0
Refuses rule old result new =
    (result ≡ Err (refusal_by rule old.notes))
    × (new ≡ record old { refusal = Some (refusal_by rule old.notes) })

-- after a refusal the same is answered, and nothing changes; before one, this holds
abbrev pub UnlessRefused : {V : Type 0} → Checking → Result V VerifyFault → Checking
    → Type 0 → Type 0
UnlessRefused old result new P =
    MatchOption old.refusal P (λ fault. (result ≡ Err fault) × (new ≡ old))

-- a line is accepted and noted, or refused by the first rule that it breaks;
-- for want of memory nothing changes
abbrev pub JudgesNext : Checking → Line → Result (Unit {0}) VerifyFault → Checking → Type 0
JudgesNext old line (Ok done) new =
    Verdict old.il old.notes line None × (new ≡ record old { notes = noted old.il old.notes line })
JudgesNext old line (Err Memory) new = new ≡ old
JudgesNext old line (Err (Refused rule at typing)) new =
    Verdict old.il old.notes line (Some rule)
    × Refuses {V = Unit {0}} rule old (Err (Refused rule at typing)) new

-- a line is judged as the next one; after a refusal it is answered again, and nothing changes
abbrev pub Judges : Checking → Line → Result (Unit {0}) VerifyFault → Checking → Type 0
Judges old line result new = UnlessRefused old result new (JudgesNext old line result new)

-- The bytes are the text of a line, which is judged;
-- or they are the text of none, and are refused as malformed.
abbrev pub FeedsLine : Checking → List ℕ → Result (Unit {0}) VerifyFault → Checking → Type 0
FeedsLine old bytes result new =
    ((line : Line) × LineText line bytes × JudgesNext old line result new)
    ⊎ (IsNoLine bytes × Refuses {V = Unit {0}} V3 old result new)

-- the bytes are judged as the next line; for want of memory nothing changes
abbrev pub FeedsNext : Checking → List ℕ → Result (Unit {0}) VerifyFault → Checking → Type 0
FeedsNext old bytes (Ok done) new = FeedsLine old bytes (Ok done) new
FeedsNext old bytes (Err Memory) new = new ≡ old
FeedsNext old bytes (Err (Refused rule at typing)) new =
    FeedsLine old bytes (Err (Refused rule at typing)) new

-- the bytes are judged as the next line; after a refusal it is answered again, and nothing changes
abbrev pub Feeds : Checking → List ℕ → Result (Unit {0}) VerifyFault → Checking → Type 0
Feeds old bytes result new = UnlessRefused old result new (FeedsNext old bytes result new)

-- the lines are accepted where an end line was taken, and else refused at the line behind them
abbrev pub FinishesNow : Checking → Result Accepted VerifyFault → Checking → Type 0
FinishesNow old (Ok accepted) new =
    (old.notes.ended ≡ true) × (accepted.lines ≡ length old.notes.lines)
    × (accepted.steps ≡ old.notes.steps) × (new ≡ old)
FinishesNow old (Err fault) new =
    (old.notes.ended ≡ false) × Refuses {V = Accepted} V12 old (Err fault) new

-- the lines are accepted as a whole, or refused behind the last one; after a refusal
-- it is answered again, and nothing changes
abbrev pub Finishes : Checking → Result Accepted VerifyFault → Checking → Type 0
Finishes old result new = UnlessRefused old result new (FinishesNow old result new)
