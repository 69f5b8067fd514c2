-- Tokens that are judged and taken one after another.
use Rattle.std.specs.Prelude.{◌≡◌, ℕ, ◌+◌, List, length, Option, Some, None, slice_get, if◌then◌else◌}
use Rattle.st_num.specs.declared.rule.RuleId.{RuleId}
use Rattle.st_num.specs.declared.rule.RuleId.TheVariants.{S1}
use Rattle.st_num.specs.declared.token.Token.{Token}
use Rattle.st_grammar.specs.Terminals.{terminal}
use Rattle.st_grammar.specs.declared.action.Action.{Action}
use Rattle.st_parse_automaton.specs.declared.position.Advance.{Advance}
use Rattle.st_parse_automaton.specs.declared.position.Progress.{Progress}
use Rattle.st_parse_automaton.specs.declared.position.TokenClass.{TokenClass}
use Rattle.st_parse_automaton.specs.inner.DefinitionAutomaton as definitions
use Rattle.st_parse_automaton.specs.inner.Readings.{progress_of}
use Rattle.st_parse_automaton.specs.inner.Shapes.{class_of}
use Rattle.st_parse_faults.specs.declared.fault.TokenFault.{TokenFault}
use Rattle.st_parse_faults.specs.declared.judge.Seen.{Seen}
use Rattle.st_parse_faults.specs.declared.judge.TokenVerdict.{TokenVerdict}
use Rattle.st_parse_faults.specs.declared.judge.TokenVerdict.TheVariants.{Passed, Broken}

-- This is the verdict on a token of this class, where this is known before it.
abbrev pub Judging : Type 1
Judging = Seen → TokenClass → Token → TokenVerdict → Type 0

-- A token that stands so, leads there and adds these actions makes the latter of what was kept.
abbrev pub Taking : Type 0 → Type 1
Taking R = Advance → Progress → TokenClass → Token → List Action → R → R → Type 0

-- A token passes where this is known, and is taken.
pub record ReadsToken {R : Type 0} (Judges : Judging) (Takes : Taking R) (l : TokenClass) (x : Token)
    (known next : Seen) (old new : R) : Type 0 where
  pub advance : Advance
  pub added : List Action
  pub judged : Judges known l x (Passed next advance added)
  pub taken : Takes advance next.progress l x added old new

-- The first so many of these tokens pass, one after another, and are taken.
pub data Runs {R : Type 0} (Judges : Judging) (Takes : Taking R) (names : List (List ℕ))
    (tokens : List Token) (start : Seen) (old : R) : ℕ → Seen → R → Type 0 where
  none : {k : ℕ} {known : Seen} {new : R} → k ≡ 0 → known ≡ start → new ≡ old
      → Runs Judges Takes names tokens start old k known new
  more : {k all : ℕ} {known next : Seen} {kept new : R} (x : Token)
      → Runs Judges Takes names tokens start old k known kept → all ≡ k + 1
      → slice_get tokens k ≡ Some x
      → ReadsToken Judges Takes (class_of (terminal names x)) x known next kept new
      → Runs Judges Takes names tokens start old all next new

-- the fault of tokens that end too early
abbrev pub early_end : List Token → TokenFault
early_end tokens = record { token = length tokens; rule = S1 }

-- the fault of tokens that end in this state, where no token has one
abbrev pub fault_of : List Token → definitions.State → Option TokenFault
fault_of tokens st = if definitions.may_end st then None else Some (early_end tokens)

-- Behind so many tokens no more are read: they end, or the next one breaks a rule.
pub data Stops (Judges : Judging) (names : List (List ℕ)) (tokens : List Token) (k : ℕ)
    (known : Seen) (last : Progress) (found : Option TokenFault) : Type 0 where
  at_end : length tokens ≡ k → last ≡ known.progress
      → found ≡ fault_of tokens (progress_of last)
      → Stops Judges names tokens k known last found
  at_token : (x : Token) (rule : RuleId) → slice_get tokens k ≡ Some x
      → found ≡ Some (record { token = k; rule = rule })
      → Judges known (class_of (terminal names x)) x (Broken rule last)
      → Stops Judges names tokens k known last found

-- The tokens are read up to their end, or to the first that breaks a rule.
pub record Ends {R : Type 0} (Judges : Judging) (Takes : Taking R) (names : List (List ℕ))
    (tokens : List Token) (start : Seen) (old : R) (last : Progress) (found : Option TokenFault)
    (new : R) : Type 0 where
  pub count : ℕ
  pub known : Seen
  pub run : Runs Judges Takes names tokens start old count known new
  pub stops : Stops Judges names tokens count known last found
