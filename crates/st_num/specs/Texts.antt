-- Texts, of which values and quotes are made.
use Rattle.std.specs.Prelude.{◌≡◌, ℕ, ◌≤◌, ◌⊎◌, List, [], ◌∷◌, ◌++◌, ◌==◌, if◌then◌else◌, IsUtf8}
use Rattle.std.specs.List.{All, flat_map}

-- a byte that is no control character, or a line feed or a tab
abbrev pub IsTextByte : ℕ → Type 0
IsTextByte byte = (32 ≤ byte) ⊎ (byte ≡ 10) ⊎ (byte ≡ 9)

-- UTF-8 whose only characters below U+0020 are line feeds and tabs
pub record IsText (bytes : List ℕ) : Type 0 where
  pub utf8 : IsUtf8 bytes
  pub printable : All IsTextByte bytes

-- how a byte of a text is written between the quotes: as `\"`, `\\`, `\n`, `\t` or itself
abbrev pub escaped : ℕ → List ℕ
escaped b =
    if b == 34 then 92 ∷ 34 ∷ []
    else if b == 92 then 92 ∷ 92 ∷ []
    else if b == 10 then 92 ∷ 110 ∷ []
    else if b == 9 then 92 ∷ 116 ∷ []
    else b ∷ []

-- a text in its quotes
abbrev pub quoted : List ℕ → List ℕ
quoted text = 34 ∷ flat_map escaped text ++ 34 ∷ []
