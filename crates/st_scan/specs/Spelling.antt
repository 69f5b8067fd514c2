-- How each token is written.
use Rattle.std.specs.Prelude.{◌≡◌, ℕ, List, [], ◌∷◌, Bool, false, ◌&&◌, IsTrue}
use Rattle.std.specs.List.{list_all, list_any}
use Rattle.st_num.specs.Signs.{spelling}
use Rattle.st_num.specs.Texts.{quoted}
use Rattle.st_scan.specs.Bytes.{is_lower, is_letter, is_name_part, is_text_byte}
use Rattle.st_num.specs.Words.{word_spelling}
use Rattle.st_num.specs.Numeral.{Spells as SpellsNumber}
use Rattle.st_num.specs.declared.word.Word.{Word}
use Rattle.st_num.specs.declared.token.TokenKind.{TokenKind}
use Rattle.st_num.specs.declared.token.TokenKind.TheVariants.{Low, Up, Mix, Reserved, Number, Text, Dot, Fun, Sign}

-- a letter, then letters, digits, `_` and `'`
abbrev pub is_name : List ℕ → Bool
is_name [] = false
is_name (b ∷ bs) = is_letter b && list_all is_name_part bs

-- a lower-case letter stands first
abbrev pub begins_lower : List ℕ → Bool
begins_lower [] = false
begins_lower (b ∷ bs) = is_lower b

-- a lower-case letter stands among these bytes
abbrev pub has_lower : List ℕ → Bool
has_lower bs = list_any is_lower bs

-- the name is one that the language keeps for itself
abbrev pub IsReserved : List ℕ → Type 0
IsReserved name = (word : Word) × (name ≡ word_spelling word)

-- the bytes spell this token
abbrev pub Spells : List ℕ → TokenKind → Type 0
Spells bytes (Low name) =
    (bytes ≡ name) × IsTrue (is_name name) × IsTrue (begins_lower name) × ¬ (IsReserved name)
Spells bytes (Up name) = (bytes ≡ name) × IsTrue (is_name name) × (has_lower name ≡ false)
Spells bytes (Mix name) =
    (bytes ≡ name) × IsTrue (is_name name) × (begins_lower name ≡ false) × IsTrue (has_lower name)
Spells bytes (Reserved word) = bytes ≡ word_spelling word
Spells bytes (Number n) = SpellsNumber bytes n
Spells bytes (Text text) = (bytes ≡ quoted text) × IsTrue (list_all is_text_byte text)
Spells bytes (Dot name) = (bytes ≡ 46 ∷ name) × IsTrue (is_name name)
Spells bytes (Fun name) = (bytes ≡ 36 ∷ name) × IsTrue (is_name name) × IsTrue (begins_lower name)
Spells bytes (Sign mark) = bytes ≡ spelling mark
