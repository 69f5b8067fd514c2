-- Numbers as words are those that decimal digits spell.
use Rattle.std.proofs.Common.{◌≡◌, ◌∙◌, sym, subst, ℕ, ◌<◌, ◌^◌, ◌↔◌, List, [], ◌∷◌, ◌++◌, codes, inl, inr, Result, Ok, arith}
use Rattle.st_num.specs.Numeral.{IsDigitsOf, Spells}
use Rattle.st_num.specs.declared.numeral.NumFault.{NumFault}
use Rattle.st_words.specs.Numbers.{IsNumber, Says}

-- what reading says of the bytes of a text that does not begin with `0x`
module _ (text bytes : List ℕ) (result : Result ℕ NumFault) (same : bytes ≡ text)
    (value : (n : ℕ) → (result ≡ Ok n) ↔ (Spells bytes n × (n < 2 ^ 128)))
    (plain : (rest : List ℕ) → ¬ (text ≡ codes "0x" ++ rest)) where
  by_text : (n : ℕ) → Spells text n → IsDigitsOf 10 text n
  by_text n (inl spelled) = spelled
  by_text n (inr (digits, is, spelled)) = absurd (plain digits is)

  decimal : (n : ℕ) → Spells bytes n ↔ IsDigitsOf 10 text n
  decimal n = subst (λ t. Spells t n ↔ IsDigitsOf 10 text n) (sym same) (by_text n, λ spelled. inl spelled)

  pub number_found : (low high n : ℕ) → high < 2 ^ 32 → IsNumber low high text n → result ≡ Ok n
  number_found low high n fits number =
      let below : n < 2 ^ 128 = omega (arith, fits, number.most) in
      (value n).1 ((decimal n).1 number.digits, below)

  pub number_digits : (n : ℕ) → result ≡ Ok n → IsDigitsOf 10 text n
  number_digits n is = (decimal n).0 ((value n).0 is).0

-- an option says one thing
pub Says-only : (default low high : ℕ) (values : List (List ℕ)) (n m : ℕ) → Says default low high values n → Says default low high values m → n ≡ m
Says-only default low high [] n m is so = cc
Says-only default low high (text ∷ []) n m is so = is.digits.1 ∙ sym so.digits.1
Says-only default low high (text ∷ other ∷ more) n m is so = absurd is
