-- How numbers are spelled in a text.
use Rattle.std.specs.Prelude.{◌≡◌, ℕ, List, ◌++◌, ◌⊎◌, codes}
use Rattle.std.specs.Str.Parse.{IsNumeral, digits_value}

-- the text is one digit or more in this radix, of either case, and n is their value
abbrev pub IsDigitsOf : ℕ → List ℕ → ℕ → Type 0
IsDigitsOf radix text n = IsNumeral radix text × (n ≡ digits_value radix text)

-- the text spells n: by decimal digits, or by `0x` and hexadecimal digits
abbrev pub Spells : List ℕ → ℕ → Type 0
Spells text n = IsDigitsOf 10 text n
    ⊎ ((digits : List ℕ) × (text ≡ codes "0x" ++ digits) × IsDigitsOf 16 digits n)
