-- What a scan answers: the one list of tokens of a file, or its one first fault.
use Rattle.std.specs.Prelude.{◌≡◌, ℕ, List, [], IsTrue, ⊤}
use Rattle.std.specs.List.{All, list_all}
use Rattle.std.specs.Str.{IsUtf8}
use Rattle.st_scan.specs.Bytes.{is_text_byte}
use Rattle.st_num.specs.declared.span.Span.{Span}
use Rattle.st_num.specs.declared.rule.RuleId.{RuleId}
use Rattle.st_scan.specs.Tokens.{Tokens}
use Rattle.st_scan.specs.Faults.{FirstFault}
use Rattle.st_num.specs.declared.token.Token.{Token}
use Rattle.st_num.specs.declared.token.TokenKind.{TokenKind}
use Rattle.st_num.specs.declared.token.TokenKind.TheVariants.{Low, Up, Mix, Text, Dot, Fun}
use Rattle.st_num.specs.declared.fault.Fault.{Fault as LexFault}
use Rattle.st_num.specs.declared.fault.Fault.TheVariants.{Refused, Memory}

-- the file has no other list of tokens, and no fault
pub record IsOnlyList (number : ℕ) (file : List ℕ) (tokens : List Token) : Type 0 where
  pub only : (others : List Token) → Tokens number file others → others ≡ tokens
  pub faultless : (at : Span) (rule : RuleId) → ¬ (FirstFault number file at rule)

-- the file is refused at no other place and by no other rule, and has no tokens
pub record IsOnlyFault (number : ℕ) (file : List ℕ) (at : Span) (rule : RuleId) : Type 0 where
  pub only : (there : Span) (other : RuleId) → FirstFault number file there other
      → (there ≡ at) × (other ≡ rule)
  pub tokenless : (tokens : List Token) → ¬ (Tokens number file tokens)

-- a refusal tells the first fault; want of memory tells nothing
abbrev pub TellsFirst : ℕ → List ℕ → LexFault → Type 0
TellsFirst number file (Refused at rule) = FirstFault number file at rule
TellsFirst number file Memory = ⊤

-- a refusal tells the only fault of the file; want of memory tells nothing
abbrev pub TellsOnly : ℕ → List ℕ → LexFault → Type 0
TellsOnly number file (Refused at rule) = IsOnlyFault number file at rule
TellsOnly number file Memory = ⊤

-- UTF-8 whose only characters below U+0020 are line feeds and tabs
pub record IsText (bytes : List ℕ) : Type 0 where
  pub utf8 : IsUtf8 bytes
  pub printable : IsTrue (list_all is_text_byte bytes)

-- the name or the text in a token, and nothing in any other token
abbrev pub text_in : TokenKind → List ℕ
text_in (Low name) = name
text_in (Up name) = name
text_in (Mix name) = name
text_in (Text text) = text
text_in (Dot name) = name
text_in (Fun name) = name
text_in _ = []

-- the name or the text in each token is UTF-8 without control characters but line feeds and tabs
abbrev pub HaveTexts : List Token → Type 0
HaveTexts tokens = All (λ token. IsText (text_in token.kind)) tokens
