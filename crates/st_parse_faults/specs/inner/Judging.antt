-- Tokens are judged one after another, up to the first that breaks a rule.
use Rattle.std.specs.Prelude.{◌≡◌, ℕ, ◌+◌, ◌<◌, ◌⊎◌, List, [], ◌∷◌, length, take, Bool, true, false, Option, Some, None}
use Rattle.st_num.specs.declared.rule.RuleId.{RuleId}
use Rattle.st_num.specs.declared.rule.RuleId.TheVariants.{S1, S2, S3}
use Rattle.st_num.specs.declared.token.Token.{Token}

-- what is known behind some tokens, or the rule that one of them breaks
pub data TokenVerdict (S : Type 0) : Type 0 where
  -- The tokens are read without a fault.
  passed : S → TokenVerdict S
  broken : RuleId → TokenVerdict S

-- the verdict where too many brackets are open, or else too much is counted, or neither
abbrev pub limited : {S : Type 0} → Bool → Bool → S → TokenVerdict S
limited true b seen = broken S2
limited false true seen = broken S3
limited false false seen = passed seen

-- the verdict on more tokens, where each is judged so
abbrev pub judge_all : {S : Type 0} → (S → Token → TokenVerdict S) → TokenVerdict S → List Token
    → TokenVerdict S
judge_all judge v [] = v
judge_all judge (passed seen) (x ∷ tokens) = judge_all judge (judge seen x) tokens
judge_all judge (broken r) (x ∷ tokens) = broken r

-- the verdict on the first k tokens, where this is known before them
abbrev pub verdict_on : {S : Type 0} → (S → Token → TokenVerdict S) → S → List Token → ℕ
    → TokenVerdict S
verdict_on judge start tokens k = judge_all judge (passed start) (take k tokens)

-- No token has a fault, and the tokens may end, as this tells of what is known behind them.
abbrev pub Pass : {S : Type 0} → {A : Type 0} → (S → Token → TokenVerdict S) → (S → Option A) → S
    → List Token → Type 0
Pass {S} {A} judge finish start tokens =
    (seen : S) × (a : A) × (verdict_on judge start tokens (length tokens) ≡ passed seen)
    × (finish seen ≡ Some a)

-- The first fault breaks this rule at token k, or at the end where the tokens end too early.
abbrev pub BreaksAt : {S : Type 0} → {A : Type 0} → (S → Token → TokenVerdict S) → (S → Option A)
    → S → List Token → ℕ → RuleId → Type 0
BreaksAt {S} {A} judge finish start tokens k r =
    ((k < length tokens) × ((seen : S) × (verdict_on judge start tokens k ≡ passed seen))
    × (verdict_on judge start tokens (k + 1) ≡ broken r))
    ⊎ ((k ≡ length tokens) × (r ≡ S1)
    × ((seen : S) × (verdict_on judge start tokens k ≡ passed seen) × (finish seen ≡ None)))
