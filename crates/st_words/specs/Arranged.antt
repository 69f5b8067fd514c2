-- How the words behind the name of a command are arranged: plain words and options.
use Rattle.std.specs.Prelude.{◌≡◌, ℕ, List, [], ◌∷◌, ◌++◌, codes, Bool, false, ◌==◌, nat_eq, ◌⊎◌}
use Rattle.std.specs.List.{list_any, before_first}
use Rattle.std.specs.Cmp.Lexicographic.{pointwise}
use Rattle.st_words.specs.declared.arrangement.Arrangement.{Arrangement}

-- whether a word begins with `-`
abbrev pub begins_with_dash : List ℕ → Bool
begins_with_dash [] = false
begins_with_dash (byte ∷ bytes) = byte == 45

-- whether a word begins with `-` and is longer than one character
abbrev pub is_dashed : List ℕ → Bool
is_dashed [] = false
is_dashed (byte ∷ []) = false
is_dashed (byte ∷ next ∷ bytes) = byte == 45

-- whether a word is `--`, behind which no word is an option
abbrev pub is_end : List ℕ → Bool
is_end word = pointwise nat_eq word (codes "--")

-- the words are an option of this name with this value, as `--fuel 5` or `--fuel=5`; a value that
-- is a word of its own does not begin with `-`
abbrev pub IsOption : List ℕ → List ℕ → List (List ℕ) → Type 0
IsOption name value words =
    ((words ≡ name ∷ value ∷ []) × (begins_with_dash value ≡ false))
    ⊎ (words ≡ (name ++ codes "=" ++ value) ∷ [])

-- the arrangement of plain words and no options
abbrev pub plain_words : List (List ℕ) → Arrangement
plain_words words = record { plain = words; fuels = []; depths = [] }

-- the words are arranged so: plain words, values of `--fuel` and values of `--depth`, each in order
pub data IsArranged : List (List ℕ) → Arrangement → Type 0 where
  -- no words
  empty : IsArranged [] (plain_words [])
  -- `--`, and plain words behind it
  ended : (words : List (List ℕ)) → IsArranged (codes "--" ∷ words) (plain_words words)
  -- a plain word in front
  plain : (word : List ℕ) (words : List (List ℕ)) (rest : Arrangement)
      → is_dashed word ≡ false
      → IsArranged words rest
      → IsArranged (word ∷ words) (record rest { plain = word ∷ rest.plain })
  -- an option in front
  fuel : (value : List ℕ) (option words : List (List ℕ)) (rest : Arrangement)
      → IsOption (codes "--fuel") value option
      → IsArranged words rest
      → IsArranged (option ++ words) (record rest { fuels = value ∷ rest.fuels })
  depth : (value : List ℕ) (option words : List (List ℕ)) (rest : Arrangement)
      → IsOption (codes "--depth") value option
      → IsArranged words rest
      → IsArranged (option ++ words) (record rest { depths = value ∷ rest.depths })

-- whether an option stands among the words: before the first `--`, a word that begins with `-` and
-- is longer than one character
abbrev pub has_options : List (List ℕ) → Bool
has_options words = list_any is_dashed (before_first is_end words)
