-- Lemmas on spellings: digits one by one, the two kinds apart, and what a reader of digits says of a text.
use Rattle.std.proofs.Common.{◌≡◌, refl, sym, subst, ap, ◌∙◌, ℕ, zero, suc, ◌+◌, ◌*◌, ◌^◌, ◌<◌, ◌≤◌, true, false, List, [], ◌∷◌, ◌++◌, length, take, drop, get_or, codes, nat_eq, Option, Some, None, Result, Ok, Err, IsNone, IfSome, IfOk, inl, inr, ◌↔◌, ℤ, pos, negsuc, arith}
use Rattle.std.proofs.Math.Nat.{mul-le-mul_left}
use Rattle.std.proofs.lemmas.List.{take-append-drop}
use Rattle.std.proofs.lemmas.Result.{IfOk-at_ok}
use Rattle.std.specs.Cmp.Lexicographic.{pointwise, bytes_decides}
use Rattle.std.specs.Option.{SomeIff}
use Rattle.std.specs.Char.{digit_value}
use Rattle.std.specs.Fmt.{signed_decimal}
use Rattle.std.specs.Str.Parse.{AllDigits, IsNumeral, digits_value}
use Rattle.st_num.specs.Number.{below_zero}
use Rattle.st_num.specs.Numeral.{IsDigitsOf, Spells}
use Rattle.st_num.specs.declared.numeral.NumFault.{NumFault}
use Rattle.st_num.specs.declared.numeral.NumFault.TheVariants.{Malformed, Large}

-- each of them is a digit
pub AllDigits-at : (radix : ℕ) (digits : List ℕ) (i : ℕ) → AllDigits radix digits → i < length digits → digit_value (get_or digits i 0) < radix
AllDigits-at radix [] i all within = absurd (omega (arith, within))
AllDigits-at radix (c ∷ digits) zero all within = all.0
AllDigits-at radix (c ∷ digits) (suc i) all within = AllDigits-at radix digits i all.1 (omega (arith, within))

-- one more digit behind a value, which stays out of range where it was so
pub SomeIff-digit : (value result : Option ℕ) (radix digit so_far more : ℕ) → 1 ≤ radix → more ≡ so_far * radix + digit
    → SomeIff value (so_far < 2 ^ 128) so_far
    → (IsNone value → IsNone result)
    → IfSome value (λ n. SomeIff result (n * radix + digit < 2 ^ 128) (n * radix + digit))
    → SomeIff result (more < 2 ^ 128) more
SomeIff-digit (Some n) result radix digit so_far more positive is value none some =
    subst (λ m. SomeIff result (m < 2 ^ 128) m) (ap (λ k. k * radix + digit) value.1 ∙ sym is) some
SomeIff-digit None (Some n) radix digit so_far more positive is value none some = absurd (cc (none refl))
SomeIff-digit None None radix digit so_far more positive is value none some =
    λ fits. let grows : so_far * 1 ≤ so_far * radix = mul-le-mul_left so_far positive in value (omega (arith, grows, is, fits))

-- a text that begins with `0x` is spelled by the digits behind
pub Spells-hexadecimal : (text digits : List ℕ) → text ≡ codes "0x" ++ digits → (n : ℕ) → Spells text n ↔ IsDigitsOf 16 digits n
Spells-hexadecimal text digits is n = (only, λ spelled. inr (digits, is, spelled))
  where
    no_decimal : IsNumeral 10 (codes "0x" ++ digits) → ⊥
    no_decimal numeral = omega (arith, numeral.1.1.0)

    only : Spells text n → IsDigitsOf 16 digits n
    only (inl spelled) = absurd (no_decimal (subst (IsNumeral 10) is spelled.0))
    only (inr spelled) = subst (λ ds. IsDigitsOf 16 ds n) (cc) spelled.2

-- any other text is spelled by decimal digits
pub Spells-decimal : (text : List ℕ) → pointwise nat_eq (take 2 text) (codes "0x") ≡ false → (n : ℕ) → Spells text n ↔ IsDigitsOf 10 text n
Spells-decimal text other n = (only, λ spelled. inl spelled)
  where
    prefixed : (digits : List ℕ) → text ≡ codes "0x" ++ digits → pointwise nat_eq (take 2 text) (codes "0x") ≡ true
    prefixed digits is = ap (λ t. pointwise nat_eq (take 2 t) (codes "0x")) is

    only : Spells text n → IsDigitsOf 10 text n
    only (inl spelled) = spelled
    only (inr spelled) = absurd (cc (prefixed spelled.0 spelled.1))

-- what follows a prefix `0x`
pub after_prefix : (text digits : List ℕ) → pointwise nat_eq (take 2 text) (codes "0x") ≡ true → digits ≡ drop 2 text → text ≡ codes "0x" ++ digits
after_prefix text digits begins is =
    sym (take-append-drop 2 text) ∙ ap (λ t. t ++ drop 2 text) ((bytes_decides (take 2 text) (codes "0x")).0 begins) ∙ ap (λ t. codes "0x" ++ t) (sym is)

-- what reading digits says of a text that only they can spell
module _ (text digits : List ℕ) (radix : ℕ) (result : Result ℕ NumFault) (same : (n : ℕ) → Spells text n ↔ IsDigitsOf radix digits n) (ok : IfOk result (λ n. IsDigitsOf radix digits n × n < 2 ^ 128)) (large : result ≡ Err Large → IsNumeral radix digits × 2 ^ 128 ≤ digits_value radix digits) (malformed : result ≡ Err Malformed → IsNumeral radix digits → ⊥) where
  said : (n : ℕ) → result ≡ Ok n → IsDigitsOf radix digits n × n < 2 ^ 128
  said n is = IfOk-at_ok (λ n. IsDigitsOf radix digits n × n < 2 ^ 128) is ok

  spelled_large : (r : Result ℕ NumFault) → result ≡ r → (n : ℕ) → Spells text n → 2 ^ 128 ≤ n → result ≡ Err Large
  spelled_large (Ok m) is n spelled above =
      absurd (omega (arith, (said m is).0.1, (said m is).1, ((same n).0 spelled).1, above))
  spelled_large (Err Large) is n spelled above = is
  spelled_large (Err Malformed) is n spelled above = absurd (malformed is ((same n).0 spelled).0)

  unspelled : (r : Result ℕ NumFault) → result ≡ r → ((n : ℕ) → Spells text n → ⊥) → result ≡ Err Malformed
  unspelled (Ok m) is none = absurd (none m ((same m).1 (said m is).0))
  unspelled (Err Large) is none = absurd (none _ ((same _).1 ((large is).0, refl)))
  unspelled (Err Malformed) is none = is

  pub reads_large : (result ≡ Err Large) ↔ ((n : ℕ) × Spells text n × 2 ^ 128 ≤ n)
  reads_large = (
    λ is. (digits_value radix digits, (same _).1 ((large is).0, refl), (large is).1),
    λ spelled. spelled_large result refl spelled.0 spelled.1 spelled.2,
  )

  pub reads_malformed : (result ≡ Err Malformed) ↔ ((n : ℕ) → Spells text n → ⊥)
  reads_malformed = (λ is n spelled. malformed is ((same n).0 spelled).0, unspelled result refl)

-- a negative number's text begins with `-`
pub take-signed_decimal : (n : ℤ) → below_zero n ≡ true → take 1 (signed_decimal n) ≡ codes "-"
take-signed_decimal (pos n) negative = absurd (cc negative)
take-signed_decimal (negsuc n) negative = refl
