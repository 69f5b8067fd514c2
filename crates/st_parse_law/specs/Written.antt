-- Tokens written one behind another, with blanks between some of them.
use Rattle.std.specs.Prelude.{ℕ, List, [], ◌∷◌, ◌++◌, Bool, true, false, not, ◌||◌, IsTrue, ⊤}
use Rattle.std.specs.List.{list_any, starts_with}
use Rattle.std.specs.Bool.{nat_eq}
use Rattle.std.specs.Str.{IsUtf8}
use Rattle.st_num.specs.Signs.{spelling}
use Rattle.st_num.specs.declared.mark.Mark.{Mark}
use Rattle.st_num.specs.declared.mark.TheConstants.Mark.{ALL as SIGNS}
use Rattle.st_scan.specs.Bytes.{is_name_part}
use Rattle.st_scan.specs.Gaps.{opens, starts_line}
use Rattle.st_scan.specs.Spelling.{Spells}
use Rattle.st_scan.specs.Tokens.{IsInRange}
use Rattle.st_num.specs.declared.token.Token.{Token}
use Rattle.st_num.specs.declared.token.TokenKind.{TokenKind}
use Rattle.st_num.specs.declared.token.TokenKind.TheVariants.{Text, Sign}

-- a blank, or the text of a token
pub data Piece : Type 0 where
  space : Piece
  token : TokenKind → List ℕ → Piece

-- the bytes of a text that is written in these pieces, tokens and spaces
abbrev pub bytes_of : List Piece → List ℕ
bytes_of [] = []
bytes_of (space ∷ ps) = 32 ∷ bytes_of ps
bytes_of (token k text ∷ ps) = text ++ bytes_of ps

-- ---- what may stand directly behind a token

-- The text of a token and a byte behind it are the front of a comment.
abbrev pub opens_with : List ℕ → ℕ → Bool
opens_with (a ∷ []) b = opens a b || starts_line a b
opens_with text b = false

-- A sign and a byte behind it begin a longer sign, or a comment.
abbrev pub runs_on : Mark → ℕ → Bool
runs_on m b =
    list_any (λ other. starts_with nat_eq (spelling other) (spelling m ++ b ∷ [])) SIGNS
    || opens_with (spelling m) b

-- The token ends where this stands behind it.
abbrev pub ends_before : TokenKind → List ℕ → Bool
ends_before k [] = true
ends_before (Text text) (b ∷ bs) = true
ends_before (Sign m) (b ∷ bs) = not (runs_on m b)
ends_before k (b ∷ bs) = not (is_name_part b)

-- A file may have the token: a number is below 2 ^ 128, and a text is UTF-8.
abbrev pub IsAllowed : TokenKind → Type 0
IsAllowed (Text text) = IsUtf8 text
IsAllowed k = IsInRange k

-- Each token is allowed, is spelled by its text and ends where the next piece begins.
abbrev pub AreApart : List Piece → Type 0
AreApart [] = ⊤
AreApart (space ∷ ps) = AreApart ps
AreApart (token k text ∷ ps) =
    Spells text k × IsAllowed k × IsTrue (ends_before k (bytes_of ps)) × AreApart ps

-- ---- the tokens of pieces

-- the tokens, each with whether it touches what stands before it; whether the first one does
abbrev pub shapes_behind : Bool → List Piece → List (TokenKind × Bool)
shapes_behind touching [] = []
shapes_behind touching (space ∷ ps) = shapes_behind false ps
shapes_behind touching (token k text ∷ ps) = (k, touching) ∷ shapes_behind true ps

-- the same of a whole file, whose start the first token touches where no blank is before it
abbrev pub shapes : List Piece → List (TokenKind × Bool)
shapes ps = shapes_behind true ps

-- what a token is but for its place
abbrev pub shape : Token → TokenKind × Bool
shape t = (t.kind, t.touching)
