-- The longest number at a place.
use Rattle.std.proofs.Common.{◌≡◌, ◌≢◌, ℕ, ◌+◌, ◌≤◌, ◌<◌, ◌^◌, List, [], ◌∷◌, ◌++◌, length, take, drop, Bool, true, false, refl, sym, ap, ◌∙◌, subst, cond, arith, inl, inr, codes, nat_lt}
use Rattle.std.proofs.lemmas.Bool.{and_parts, and_from, false≢true, ltb-true, lt-ltb}
use Rattle.std.proofs.lemmas.Bool.Decides.{nat_tests}
use Rattle.std.proofs.lemmas.List.{take_at, length-append}
use Rattle.std.proofs.lemmas.List.Folds.{length-prefix_len}
use Rattle.std.specs.Char.{digit_value}
use Rattle.std.specs.List.{prefix_len, take_while, list_all}
use Rattle.std.specs.Str.Parse.{AllDigits, IsNumeral, digits_value}
use Rattle.st_num.specs.Numeral.{Spells as SpellsNumber}
use Rattle.st_num.specs.declared.rule.RuleId.TheVariants.{L3}
use Rattle.st_num.specs.declared.token.TokenKind.TheVariants.{Number}
use Rattle.st_scan.specs.Bytes.{is_digit}
use Rattle.st_scan.specs.Gaps.{opens_comment}
use Rattle.st_scan.specs.Tokens.{Longest}
use Rattle.st_scan.specs.Faults.{Cause, large}
use Rattle.st_scan.specs.inner.NumberFronts.{NoHexadecimal, LongestHexadecimal, LongestNumber}
use Rattle.st_scan.specs.inner.Readings.{begins_digit, IsReading}
use Rattle.st_scan.proofs.Texts.{tail_of, head_or}
use Rattle.st_scan.proofs.Spelled.{group, group_at, digit_group, spelled_group, as_number}
use Rattle.st_scan.proofs.Readings.{passing_short, front_passes, front_split, front_short, opens_first}

-- a digit in a radix
abbrev pub digit_in : ℕ → ℕ → Bool
digit_in radix b = nat_lt (digit_value b) radix

all_digits : (radix : ℕ) (digits : List ℕ) → list_all (digit_in radix) digits ≡ true → AllDigits radix digits
all_digits radix [] e = tt
all_digits radix (c ∷ cs) e =
    let both = and_parts (digit_in radix c) (list_all (digit_in radix) cs) e in
    (ltb-true (digit_value c) radix both.0, all_digits radix cs both.1)

digits_all : (radix : ℕ) (digits : List ℕ) → AllDigits radix digits → list_all (digit_in radix) digits ≡ true
digits_all radix [] e = refl
digits_all radix (c ∷ cs) e = and_from (digit_in radix c) (list_all (digit_in radix) cs) (lt-ltb (digit_value c) radix e.0) (digits_all radix cs e.1)

-- ---- hexadecimal digits

-- what stands behind `0x`
behind_prefix : (bytes digits other more : List ℕ) → bytes ≡ codes "0x" ++ digits → bytes ≡ (codes "0x" ++ other) ++ more → digits ≡ other ++ more
behind_prefix bytes digits other more e f = ap (λ u. tail_of (tail_of u)) (sym e ∙ f)

pub no_hexadecimal : (bytes digits : List ℕ) → bytes ≡ codes "0x" ++ digits → prefix_len (digit_in 16) digits ≡ 0 → NoHexadecimal bytes
no_hexadecimal bytes digits e none = record {
  never = λ other rest numeral f.
      let short : length other ≤ prefix_len (digit_in 16) digits = subst (λ u. length other ≤ prefix_len (digit_in 16) u) (sym (behind_prefix bytes digits other rest e f)) (passing_short (digit_in 16) other rest (digits_all 16 other numeral.1)) in
      absurd (omega (arith, short, none, numeral.0));
}

pub longest_hexadecimal : (bytes digits : List ℕ) (n : ℕ) → bytes ≡ codes "0x" ++ digits → n ≡ prefix_len (digit_in 16) digits → n ≢ 0 → LongestHexadecimal bytes (n + 2)
longest_hexadecimal bytes digits n e is some = record {
  digits = take_while (digit_in 16) digits;
  rest = drop (prefix_len (digit_in 16) digits) digits;
  split = e ∙ ap (λ u. codes "0x" ++ u) (front_split (digit_in 16) digits);
  numeral = (omega (arith, length-prefix_len (digit_in 16) digits, is, some), all_digits 16 (take_while (digit_in 16) digits) (front_passes (digit_in 16) digits));
  longest = λ other more all f. front_short (digit_in 16) digits other more (behind_prefix bytes digits other more e f) (digits_all 16 other all);
  counted = omega (arith, length-prefix_len (digit_in 16) digits, is);
}

-- ---- numbers

-- a decimal number ends before an `x`
decimal_short : (other more rest : List ℕ) → IsNumeral 10 other → other ++ more ≡ 48 ∷ 120 ∷ rest → length other ≤ 1
decimal_short [] more rest n e = omega arith
decimal_short (b ∷ []) more rest n e = omega arith
decimal_short (b ∷ c ∷ cs) more rest n e =
    let same : c ≡ 120 = ap (λ u. head_or (tail_of u)) e in
    absurd (omega (arith, subst (λ d. digit_value d < 10) same n.1.1.0))

pub hexadecimal_number : (bytes : List ℕ) (size : ℕ) → LongestHexadecimal bytes size → LongestNumber bytes (take size bytes)
hexadecimal_number bytes size h = subst (LongestNumber bytes) (sym taken) (record {
  rest = h.rest;
  split = h.split;
  value = digits_value 16 h.digits;
  spelled = inr (h.digits, refl, (h.numeral, refl));
  longest = λ other more n spelled parted. no_longer other more n spelled parted;
})
  where
    long : length (codes "0x" ++ h.digits) ≡ size
    long = let two : length (codes "0x" ++ h.digits) ≡ length (codes "0x") + length h.digits = length-append (codes "0x") h.digits in omega (arith, h.counted, two)

    taken : take size bytes ≡ codes "0x" ++ h.digits
    taken = ap (take size) h.split ∙ take_at (codes "0x" ++ h.digits) h.rest size long

    no_longer : (other more : List ℕ) (n : ℕ) → SpellsNumber other n → bytes ≡ other ++ more → length other ≤ length (codes "0x" ++ h.digits)
    no_longer other more n (inl s) parted =
        let short : length other ≤ 1 = decimal_short other more (h.digits ++ h.rest) s.0 (sym parted ∙ h.split) in
        let some : 1 ≤ length (codes "0x" ++ h.digits) = omega (arith, length-append (codes "0x") h.digits) in
        omega (arith, short, some)
    no_longer other more n (inr s) parted =
        let short : length s.0 ≤ length h.digits = h.longest s.0 more s.2.0.1 (parted ∙ ap (λ u. u ++ more) s.1) in
        omega (arith, short, ap length s.1, length-append (codes "0x") s.0, length-append (codes "0x") h.digits)

digit_ten : (b : ℕ) → is_digit b ≡ true → digit_in 10 b ≡ true
digit_ten b e = grind (arith, nat_tests)

some_digits : (bytes : List ℕ) → begins_digit bytes ≡ true → 0 < prefix_len (digit_in 10) bytes
some_digits [] e = absurd (false≢true e)
some_digits (b ∷ bs) e =
    let first : prefix_len (digit_in 10) (b ∷ bs) ≡ 1 + prefix_len (digit_in 10) bs = ap (λ t. cond t (1 + prefix_len (digit_in 10) bs) 0) (digit_ten b e) in
    omega (arith, first)

pub decimal_number : (bytes : List ℕ) (n : ℕ) → begins_digit bytes ≡ true → NoHexadecimal bytes → n ≡ prefix_len (digit_in 10) bytes → LongestNumber bytes (take n bytes)
decimal_number bytes n e none is = subst (λ k. LongestNumber bytes (take k bytes)) (sym is) (record {
  rest = drop (prefix_len (digit_in 10) bytes) bytes;
  split = front_split (digit_in 10) bytes;
  value = digits_value 10 (take_while (digit_in 10) bytes);
  spelled = inl ((omega (arith, length-prefix_len (digit_in 10) bytes, some_digits bytes e), all_digits 10 (take_while (digit_in 10) bytes) (front_passes (digit_in 10) bytes)), refl);
  longest = λ other more m spelled parted. no_longer other more m spelled parted;
})
  where
    no_longer : (other more : List ℕ) (m : ℕ) → SpellsNumber other m → bytes ≡ other ++ more → length other ≤ length (take_while (digit_in 10) bytes)
    no_longer other more m (inl s) parted = front_short (digit_in 10) bytes other more parted (digits_all 10 other s.0.1)
    no_longer other more m (inr s) parted = absurd (none.never s.0 more s.2.0 (parted ∙ ap (λ u. u ++ more) s.1))

-- ---- as tokens

digit_starts : (bytes : List ℕ) → begins_digit bytes ≡ true → group_at bytes ≡ 1
digit_starts [] e = absurd (false≢true e)
digit_starts (b ∷ bs) e = digit_group b bs e

digit_opens : (bytes : List ℕ) → begins_digit bytes ≡ true → opens_comment bytes ≡ false
digit_opens [] e = refl
digit_opens (b ∷ bs) e = opens_first b bs (λ is. false≢true (ap is_digit (sym is) ∙ e))

number_longest : (bytes text : List ℕ) (n : ℕ) (h : LongestNumber bytes text) → begins_digit bytes ≡ true → SpellsNumber text n → Longest bytes text h.rest (Number n)
number_longest bytes text n h e spelled = record {
  split = h.split;
  spelled = spelled;
  longest = λ other more another parted also.
      let same : group another ≡ 1 = sym (spelled_group other more another also) ∙ ap group_at (sym parted) ∙ digit_starts bytes e in
      let found = as_number other another same also in
      h.longest other more found.0 found.2 parted;
  no_comment = digit_opens bytes e;
}

pub number_reading : (bytes text : List ℕ) (n : ℕ) → LongestNumber bytes text → begins_digit bytes ≡ true → SpellsNumber text n → n < 2 ^ 128 → IsReading bytes (record { kind = Number n; length = length text })
number_reading bytes text n h e spelled small = record {
  text = text;
  rest = h.rest;
  longest = number_longest bytes text n h e spelled;
  in_range = small;
  taken = refl;
}

pub number_large : (bytes text : List ℕ) (n : ℕ) → LongestNumber bytes text → begins_digit bytes ≡ true → SpellsNumber text n → 2 ^ 128 ≤ n → Cause bytes bytes L3
number_large bytes text n h e spelled big = large text h.rest n (number_longest bytes text n h e spelled) big
