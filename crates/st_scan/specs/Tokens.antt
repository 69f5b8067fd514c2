-- The tokens of a file: each is the longest at its place, and blanks and comments stand between.
use Rattle.std.specs.Prelude.{◌≡◌, ℕ, ◌≤◌, ◌<◌, ◌^◌, List, [], ◌∷◌, ◌++◌, length, false, ◌==◌}
use Rattle.std.specs.Str.{IsUtf8}
use Rattle.st_scan.specs.Gaps.{gap, between, opens_comment}
use Rattle.st_scan.specs.Places.{place}
use Rattle.st_scan.specs.Spelling.{Spells}
use Rattle.st_num.specs.declared.token.Token.{Token}
use Rattle.st_num.specs.declared.token.TokenKind.{TokenKind}
use Rattle.st_num.specs.declared.token.TokenKind.TheVariants.{Number}

-- the text at the front is this token, no longer front is one, and no comment opens here
pub record Longest (bytes text rest : List ℕ) (kind : TokenKind) : Type 0 where
  pub split : bytes ≡ text ++ rest
  pub spelled : Spells text kind
  pub longest : (other more : List ℕ) (another : TokenKind)
      → bytes ≡ other ++ more → Spells other another → length other ≤ length text
  pub no_comment : opens_comment bytes ≡ false

-- a number is below 2 ^ 128, and any other token is in range
abbrev pub IsInRange : TokenKind → Type 0
IsInRange (Number n) = n < 2 ^ 128
IsInRange _ = Unit {0}

-- the token is the next one in the rest of a file, and what stands behind it is left
pub record Next (number : ℕ) (file rest : List ℕ) (token : Token) (left : List ℕ) : Type 0 where
  pub text : List ℕ
  pub longest : Longest (gap between rest) text left token.kind
  pub in_range : IsInRange token.kind
  pub at : token.at ≡ place number file (gap between rest)
  pub touching : token.touching ≡ (length (gap between rest) == length rest)

-- the tokens stand one behind the other in the rest of a file, and this is left behind them
abbrev pub Run : ℕ → List ℕ → List ℕ → List Token → List ℕ → Type 0
Run number file rest [] left = rest ≡ left
Run number file rest (token ∷ tokens) left =
    (middle : List ℕ) × Next number file rest token middle × Run number file middle tokens left

-- the tokens of a file, which is UTF-8
pub record Tokens (number : ℕ) (file : List ℕ) (tokens : List Token) : Type 0 where
  pub utf8 : IsUtf8 file
  pub left : List ℕ
  pub run : Run number file file tokens left
  pub ended : gap between left ≡ []
