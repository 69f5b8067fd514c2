-- Blanks and comments.
use Rattle.std.specs.Prelude.{ℕ, zero, suc, List, [], ◌∷◌, Bool, false, ◌&&◌, ◌==◌, if◌then◌else◌}
use Rattle.st_scan.specs.Bytes.{is_blank, is_line_feed}

-- these two bytes are `(;`, which opens a comment over any number of lines
abbrev pub opens : ℕ → ℕ → Bool
opens b c = b == 40 && c == 59

-- these two bytes are `;)`, which closes such a comment
abbrev pub closes : ℕ → ℕ → Bool
closes b c = b == 59 && c == 41

-- these two bytes are `;;`, which begins a comment up to the end of the line
abbrev pub starts_line : ℕ → ℕ → Bool
starts_line b c = b == 59 && c == 59

-- what the next byte of a file stands in: a gap between tokens, or a comment of either kind
pub data Within : Type 0 where
  between : Within
  line : Within
  -- in a comment that began where this stands, with so many more open round the place
  comment : List ℕ → ℕ → Within

-- what stands behind the blanks and comments at the front; a comment that is not closed stays
unfoldable pub gap : Within → List ℕ → List ℕ
gap between [] = []
gap between (b ∷ []) = if is_blank b then [] else b ∷ []
gap between (b ∷ c ∷ bs) =
    if is_blank b then gap between (c ∷ bs)
    else if starts_line b c then gap line bs
    else if opens b c then gap (comment (b ∷ c ∷ bs) 0) bs
    else b ∷ c ∷ bs
gap line [] = []
gap line (b ∷ bs) = if is_line_feed b then gap between bs else gap line bs
gap (comment start n) [] = start
gap (comment start n) (b ∷ []) = start
gap (comment start zero) (b ∷ c ∷ bs) =
    if closes b c then gap between bs
    else if opens b c then gap (comment start 1) bs
    else gap (comment start zero) (c ∷ bs)
gap (comment start (suc n)) (b ∷ c ∷ bs) =
    if closes b c then gap (comment start n) bs
    else if opens b c then gap (comment start (suc (suc n))) bs
    else gap (comment start (suc n)) (c ∷ bs)

-- whether a comment opens at the front
abbrev pub opens_comment : List ℕ → Bool
opens_comment [] = false
opens_comment (b ∷ []) = false
opens_comment (b ∷ c ∷ bs) = opens b c
