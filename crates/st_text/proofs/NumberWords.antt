-- Lemmas on the decimal texts of numbers.
use Rattle.std.proofs.Common.{◌≡◌, ◌≢◌, ℕ, zero, suc, ◌^◌, ◌<◌, List, [], ◌∷◌, ◌++◌, Bool, true, codes, Option, Some, None, MatchOption, IfSome, Result, Ok, refl, sym, subst, ap, ap₂, ◌&&◌, ◌∙◌, arith, inl, ℤ, pos, negsuc, ◌↔◌, nat_eq, not}
use Rattle.std.specs.Fmt.{decimal, signed_decimal}
use Rattle.std.specs.Cmp.Lexicographic.{pointwise, bytes_decides}
use Rattle.std.specs.Char.{digit_value}
use Rattle.std.specs.List.{list_all}
use Rattle.std.specs.Str.Parse.{AllDigits, IsNumeral, digits_value}
use Rattle.std.proofs.lemmas.Fmt.{decimal_is_IsNumeral_wide}
use Rattle.st_num.specs.Number.{signed}
use Rattle.st_num.specs.Numeral.{Spells}
use Rattle.st_num.specs.declared.numeral.NumFault.{NumFault}
use Rattle.st_text.specs.Numbers.{IsNoNatural, IsNoInteger}
use Rattle.st_text.specs.Text.{is_word_byte, IsWord}
use Rattle.st_text.proofs.Bytes.{tails}

pub decimal-Spells : (n : ℕ) → n < 2 ^ 128 → Spells (decimal n) n
decimal-Spells n small = let p = decimal_is_IsNumeral_wide n (omega arith) in inl (p.0, sym p.1)

-- the number that a decimal text is read as
pub decimal-reads : (word : List ℕ) (n : ℕ) (result : Result ℕ NumFault) → ((m : ℕ) → (result ≡ Ok m) ↔ (Spells word m × m < 2 ^ 128)) → n < 2 ^ 128 → word ≡ decimal n → result ≡ Ok n
decimal-reads word n result value small is = (value n).1 (subst (λ w. Spells w n) (sym is) (decimal-Spells n small), small)

pub decimal-unique : (n m : ℕ) → n < 2 ^ 128 → m < 2 ^ 128 → decimal n ≡ decimal m → n ≡ m
decimal-unique n m small low e =
    sym (decimal_is_IsNumeral_wide n (omega arith)).1 ∙ ap (digits_value 10) e ∙ (decimal_is_IsNumeral_wide m (omega arith)).1

-- no number without a sign begins with one
pub decimal-no_sign : (n : ℕ) (w : List ℕ) → n < 2 ^ 128 → decimal n ≡ codes "-" ++ w → ⊥
decimal-no_sign n w small e = let numeral = subst (IsNumeral 10) e (decimal_is_IsNumeral_wide n (omega arith)).0 in omega (arith, numeral.1.0)

-- the words that a sign and digits are
pub integer_signed : (word digits : List ℕ) → word ≡ codes "-" ++ digits → IsNoNatural digits → IsNoInteger word
integer_signed word digits e none (pos n) small is = decimal-no_sign n digits small (sym is ∙ e)
integer_signed word digits e none (negsuc n) small is = none (suc n) small (tails (sym e ∙ is))

pub integer_zero : (word digits : List ℕ) (m : ℕ) → word ≡ codes "-" ++ digits → digits ≡ decimal m → m ≡ 0 → IsNoInteger word
integer_zero word digits m e d z (pos n) small is = decimal-no_sign n digits small (sym is ∙ e)
integer_zero word digits m e d z (negsuc n) small is =
    let same : decimal (suc n) ≡ decimal 0 = tails (sym is ∙ e) ∙ d ∙ ap decimal z in
    absurd (omega (arith, decimal-unique (suc n) 0 small (omega arith) same))

pub integer_negative : (word digits : List ℕ) (m : ℕ) (z : ℤ) → word ≡ codes "-" ++ digits → digits ≡ decimal m → (m ≡ 0 → ⊥) → z ≡ signed true m → word ≡ signed_decimal z
integer_negative word digits zero z e d positive is = absurd (positive refl)
integer_negative word digits (suc m) z e d positive is = e ∙ ap (λ w. 45 ∷ w) d ∙ ap signed_decimal (sym is)

-- the words that are digits alone
pub integer_none : (word : List ℕ) → ((w : List ℕ) → word ≡ codes "-" ++ w → ⊥) → IsNoNatural word → IsNoInteger word
integer_none word other none (pos n) small is = none n small is
integer_none word other none (negsuc n) small is = other (decimal (suc n)) is

-- a test whether bytes differ, at equal bytes
pub same_differ : (a b : List ℕ) (differs : Bool) → differs ≡ not (pointwise nat_eq a b) → differs ≡ true → a ≡ b → ⊥
same_differ a b differs is taken same = let equal : pointwise nat_eq a b ≡ true = (bytes_decides a b).1 same in let never : not true ≡ true = sym (ap not equal) ∙ sym is ∙ taken in cc never

-- what a sign and the magnitude behind it are read as
pub integer_answer : (word digits : List ℕ) (magnitude : Option ℕ) (result : Option ℤ) → word ≡ codes "-" ++ digits
    → MatchOption magnitude (IsNoNatural digits) (λ n. digits ≡ decimal n)
    → MatchOption result (IfSome magnitude (λ n. n ≡ 0)) (λ z. (n : ℕ) × (magnitude ≡ Some n) × (n ≢ 0) × (z ≡ signed true n))
    → MatchOption result (IsNoInteger word) (λ z. word ≡ signed_decimal z)
integer_answer word digits None None e read none = integer_signed word digits e read
integer_answer word digits (Some m) None e read none = integer_zero word digits m e read none
integer_answer word digits None (Some z) e read number = cc (number.1)
integer_answer word digits (Some m) (Some z) e read number =
    integer_negative word digits number.0 z e (read ∙ ap decimal (cc (number.1))) number.2 number.3

digit-word_byte : (c : ℕ) → digit_value c < 10 → is_word_byte c ≡ true
digit-word_byte c h = grind arith

digits-word_bytes : (w : List ℕ) → AllDigits 10 w → list_all is_word_byte w ≡ true
digits-word_bytes [] all = refl
digits-word_bytes (c ∷ w) all = ap₂ ◌&&◌ (digit-word_byte c all.0) (digits-word_bytes w all.1)

-- a number's text is a word
pub decimal-IsWord : (n : ℕ) → n < 2 ^ 128 → IsWord (decimal n)
decimal-IsWord n small = let numeral = (decimal_is_IsNumeral_wide n (omega arith)).0 in (omega (arith, numeral.0), digits-word_bytes (decimal n) numeral.1)

-- ---- what each reader's goals need

pub ruleset integer_steps = (integer_signed, integer_none)
