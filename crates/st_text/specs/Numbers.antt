-- Words that are no number of the language.
use Rattle.std.specs.Prelude.{◌≢◌, ℕ, ◌^◌, ◌<◌, List, ℤ}
use Rattle.std.specs.Fmt.{decimal, signed_decimal}
use Rattle.st_num.specs.Number.{IsNumber}

-- the decimal text of no number below 2^128
abbrev pub IsNoNatural : List ℕ → Type 0
IsNoNatural w = (n : ℕ) → n < 2 ^ 128 → w ≢ decimal n

-- the decimal text of no number of a magnitude below 2^128
abbrev pub IsNoInteger : List ℕ → Type 0
IsNoInteger w = (z : ℤ) → IsNumber z → w ≢ signed_decimal z
