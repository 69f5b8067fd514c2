-- The first fault of a file.
use Rattle.std.specs.Prelude.{◌≡◌, ◌≢◌, ℕ, ◌≤◌, ◌<◌, ◌^◌, List, [], ◌∷◌, ◌++◌, drop, Bool, true, false, not, ◌&&◌, ◌||◌, ◌==◌, nat_lt, if◌then◌else◌, IsTrue}
use Rattle.std.specs.List.{flat_map, list_all}
use Rattle.std.specs.Str.{IsValidUpTo}
use Rattle.st_num.specs.declared.span.Span.{Span}
use Rattle.st_num.specs.declared.rule.RuleId.{RuleId}
use Rattle.st_num.specs.declared.rule.RuleId.TheVariants.{L1, L2, L3, L4}
use Rattle.st_scan.specs.Bytes.{is_line_feed, is_text_byte}
use Rattle.st_scan.specs.Gaps.{gap, between, opens_comment}
use Rattle.st_scan.specs.Places.{place, offset}
use Rattle.st_scan.specs.Spelling.{Spells}
use Rattle.st_num.specs.Texts.{escaped}
use Rattle.st_scan.specs.Tokens.{Longest, Run}
use Rattle.st_num.specs.declared.token.Token.{Token}
use Rattle.st_num.specs.declared.token.TokenKind.{TokenKind}
use Rattle.st_num.specs.declared.token.TokenKind.TheVariants.{Number}

-- what stands behind the quote of a text has another quote on its line, which no `\` escapes
abbrev pub closes_text : List ℕ → Bool
closes_text [] = false
closes_text (b ∷ []) = b == 34
closes_text (b ∷ c ∷ bs) =
    if b == 34 then true
    else if is_line_feed b then false
    else if b == 92 then not (is_line_feed c) && closes_text bs
    else closes_text (c ∷ bs)

-- at the front stands what no text has: a control character, or a `\` that begins no escape
abbrev pub is_wrong : List ℕ → Bool
is_wrong [] = false
is_wrong (b ∷ []) = nat_lt b 32 || b == 92
is_wrong (b ∷ c ∷ bs) = nat_lt b 32 || b == 92 && not (c == 34 || c == 92 || c == 110 || c == 116)

-- no token begins at the front
abbrev pub NoToken : List ℕ → Type 0
NoToken bytes = (text rest : List ℕ) (kind : TokenKind)
    → bytes ≡ text ++ rest → ¬ (Spells text kind)

-- a quote begins the bytes, and this stands behind it
abbrev pub IsQuote : List ℕ → List ℕ → Type 0
IsQuote bytes behind = bytes ≡ 34 ∷ behind

-- why no token can be taken at the front of some bytes, with where the fault stands
pub data Cause (bytes : List ℕ) : List ℕ → RuleId → Type 0 where
  -- a comment that is not closed
  comment_open : opens_comment bytes ≡ true
      → Cause bytes bytes L2
  -- a text that is not closed
  text_open : (behind : List ℕ) → IsQuote bytes behind
      → closes_text behind ≡ false
      → Cause bytes bytes L2
  -- a text that is closed, with something wrong behind right bytes
  text_wrong : (behind text wrong : List ℕ) → IsQuote bytes behind
      → closes_text behind ≡ true
      → behind ≡ flat_map escaped text ++ wrong
      → IsTrue (list_all is_text_byte text)
      → IsTrue (is_wrong wrong)
      → Cause bytes wrong L1
  -- a number out of range
  large : (text rest : List ℕ) (n : ℕ) → Longest bytes text rest (Number n)
      → 2 ^ 128 ≤ n
      → Cause bytes bytes L3
  -- any other character with which no token begins
  no_token : bytes ≢ [] → NoToken bytes
      → opens_comment bytes ≡ false
      → ((behind : List ℕ) → ¬ (IsQuote bytes behind))
      → Cause bytes bytes L1

-- tokens stand at the front of the file, and what stands behind them is none and breaks this rule
pub record TokenFault (number : ℕ) (file here : List ℕ) (rule : RuleId) : Type 0 where
  pub tokens : List Token
  pub left : List ℕ
  pub run : Run number file file tokens left
  pub cause : Cause (gap between left) here rule

-- the first fault of the file: that of a token, or the first byte that is not UTF-8
pub data FirstFault (number : ℕ) (file : List ℕ) (at : Span) : RuleId → Type 0 where
  -- a token cannot be taken, and the fault stands before the first byte that is not UTF-8
  of_token : (here : List ℕ) (rule : RuleId) → TokenFault number file here rule
      → at ≡ place number file here
      → ((n : ℕ) → IsValidUpTo file n → offset file here < n)
      → FirstFault number file at rule
  -- a byte is not UTF-8, and no token fails before it
  of_utf8 : (n : ℕ) → IsValidUpTo file n
      → at ≡ place number file (drop n file)
      → ((here : List ℕ) (rule : RuleId) → TokenFault number file here rule → n ≤ offset file here)
      → FirstFault number file at L4
