-- The longest number at the front of some bytes.
use Rattle.std.specs.Prelude.{◌≡◌, ◌≢◌, ℕ, ◌+◌, ◌≤◌, List, ◌++◌, length, codes}
use Rattle.std.specs.Str.Parse.{AllDigits, IsNumeral}
use Rattle.st_num.specs.Numeral.{Spells}

-- no `0x` with hexadecimal digits stands at the front of the bytes
pub record NoHexadecimal (bytes : List ℕ) : Type 0 where
  pub never : (digits rest : List ℕ) → IsNumeral 16 digits → bytes ≢ (codes "0x" ++ digits) ++ rest

-- `0x` and as many hexadecimal digits as may be stand at the front, so many bytes in all
pub record LongestHexadecimal (bytes : List ℕ) (size : ℕ) : Type 0 where
  pub digits : List ℕ
  pub rest : List ℕ
  pub split : bytes ≡ (codes "0x" ++ digits) ++ rest
  pub numeral : IsNumeral 16 digits
  pub longest : (other more : List ℕ) → AllDigits 16 other
      → bytes ≡ (codes "0x" ++ other) ++ more → length other ≤ length digits
  pub counted : size ≡ length digits + 2

-- the text is a number, and no longer one stands at the front of the bytes
pub record LongestNumber (bytes text : List ℕ) : Type 0 where
  pub rest : List ℕ
  pub split : bytes ≡ text ++ rest
  pub value : ℕ
  pub spelled : Spells text value
  pub longest : (other more : List ℕ) (n : ℕ) → Spells other n
      → bytes ≡ other ++ more → length other ≤ length text
