-- What holds of the texts of all values.
use Rattle.std.specs.Prelude.{◌≡◌, ℕ, List, [], ◌∷◌, ◌++◌}
use Rattle.st_il.specs.declared.value.Value.{Value}
use Rattle.st_text.specs.Text.{Ends}
use Rattle.st_iltext.specs.Values.{value_text, HasValueText, ValueText}

-- a value has at most one text
abbrev pub OneValueText : Type 0
OneValueText =
    (v : Value) (bytes others : List ℕ) → ValueText v bytes → ValueText v others → bytes ≡ others

-- a text has at most one value
abbrev pub OneValue : Type 0
OneValue = (v w : Value) (bytes : List ℕ) → ValueText v bytes → ValueText w bytes → v ≡ w

-- The text of a value with a space, a closing parenthesis or a line feed behind it does not begin
-- the text of another with one of these behind it.
abbrev pub NoValueBeginsAnother : Type 0
NoValueBeginsAnother =
    (v w : Value) (b c : ℕ) (rest : List ℕ) → HasValueText v → HasValueText w
    → Ends (b ∷ []) → Ends (c ∷ [])
    → value_text w ++ c ∷ [] ≡ (value_text v ++ b ∷ []) ++ rest → (v ≡ w) × (b ≡ c) × (rest ≡ [])
