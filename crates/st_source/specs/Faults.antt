-- The tokens of the files of a specification, and their first fault.
use Rattle.std.specs.Prelude.{◌≡◌, ◌≢◌, ℕ, suc, List, [], ◌∷◌, ◌++◌, take, Some, slice_get, ⊤, ◌⊎◌}
use Rattle.st_num.specs.declared.fault.Fault.{Fault as LexFault}
use Rattle.st_num.specs.declared.fault.Fault.TheVariants.{Refused, Memory}
use Rattle.st_num.specs.declared.rule.RuleId.{RuleId}
use Rattle.st_num.specs.declared.span.Span.{Span}
use Rattle.st_num.specs.declared.token.Token.{Token}
use Rattle.st_parse.specs.Source.{FaultAt}
use Rattle.st_scan.specs.Faults.{FirstFault}
use Rattle.st_scan.specs.Tokens.{Tokens}

-- the most bytes of a source or a term
abbrev pub source_limit : ℕ
source_limit = 1048576

-- the tokens of files one behind another; files are numbered, the first by this number
abbrev pub AllTokens : ℕ → List (List ℕ) → List Token → Type 0
AllTokens number [] tokens = tokens ≡ []
AllTokens number (file ∷ files) tokens =
    (first later : List Token) × Tokens number file first × AllTokens (suc number) files later
    × (tokens ≡ first ++ later)

-- The files before this one have tokens, and this one has none: its first fault stands there.
pub record IsTokenFault (files : List (List ℕ)) (at : Span) (rule : RuleId) : Type 0 where
  pub tokens : List Token
  pub before : AllTokens 0 (take at.file files) tokens
  pub file : List ℕ
  pub is_file : slice_get files at.file ≡ Some file
  pub fault : FirstFault at.file file at rule

-- the fault is the first one by which a file has no tokens, unless memory gave out
abbrev pub TellsFault : List (List ℕ) → LexFault → Type 0
TellsFault files (Refused at rule) = IsTokenFault files at rule
TellsFault files Memory = ⊤

-- All files have tokens, and not none: what these break of the grammar or the limits first stands
-- there.
pub record IsSyntaxFault (files : List (List ℕ)) (at : Span) (rule : RuleId) : Type 0 where
  pub tokens : List Token
  pub all : AllTokens 0 files tokens
  pub some : tokens ≢ []
  pub fault : FaultAt tokens at rule

-- The first fault of the files stands there.
abbrev pub IsSourceFault : List (List ℕ) → Span → RuleId → Type 0
IsSourceFault files at rule = IsTokenFault files at rule ⊎ IsSyntaxFault files at rule
