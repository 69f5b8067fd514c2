-- Numbers as words, and the values of options.
use Rattle.std.specs.Prelude.{◌≡◌, ℕ, ◌≤◌, List, [], ◌∷◌, length}
use Rattle.st_num.specs.Numeral.{IsDigitsOf}

-- the text is one to seven decimal digits, whose value n lies between low and high
pub record IsNumber (low high : ℕ) (text : List ℕ) (n : ℕ) : Type 0 where
  pub digits : IsDigitsOf 10 text n
  pub short : length text ≤ 7
  pub least : low ≤ n
  pub most : n ≤ high

-- an option with these values says n: it is given at most once, and has a default
abbrev pub Says : ℕ → ℕ → ℕ → List (List ℕ) → ℕ → Type 0
Says default low high [] n = n ≡ default
Says default low high (text ∷ []) n = IsNumber low high text n
Says default low high (text ∷ other ∷ more) n = ⊥

-- the values of `--fuel` say n, which is 1000 by default and at most 1000000
abbrev pub SaysFuel : List (List ℕ) → ℕ → Type 0
SaysFuel fuels n = Says 1000 0 1000000 fuels n

-- the values of `--depth` say n, which is 200 by default and lies between 2 and 500
abbrev pub SaysDepth : List (List ℕ) → ℕ → Type 0
SaysDepth depths n = Says 200 2 500 depths n
