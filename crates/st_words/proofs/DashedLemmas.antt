-- What `clap` makes of a word, by its first characters.
use Rattle.std.proofs.Common.{◌≡◌, ◌∙◌, refl, sym, ap, subst, Bool, true, false, ℕ, suc, ◌+◌, List, [], ◌∷◌, ◌++◌, Option, Some, None, take, drop, codes, arith}
use Rattle.std.specs.Prelude.{◌==◌, slice_get, if◌then◌else◌}
use Rattle.std.specs.List.{before_first, after_first, position_or_len}
use Rattle.std.specs.Str.{IsUtf8, chars, encode_utf8_all}
use Rattle.std.specs.Char.{encode_utf8}
use Rattle.std.proofs.lemmas.Str.{encodes-chars}
use Rattle.std.proofs.lemmas.Bool.{eqb-true}
use Rattle.clap.specs.Lexer.{long_of, short_of, name_and_value, has_byte}
use Rattle.clap.specs.Walk.{Text}
use Rattle.st_words.specs.Arranged.{is_dashed, is_end}

-- a word that is no option
pub plain_is : (word : List ℕ) → is_dashed word ≡ false → (is_end word ≡ false) × (long_of word ≡ None) × (short_of word ≡ None)
plain_is [] none = (refl, refl, refl)
plain_is (a ∷ []) none = by (a == 45) refl
  where
    by : (b : Bool) → (a == 45) ≡ b → (is_end (a ∷ []) ≡ false) × (long_of (a ∷ []) ≡ None) × (short_of (a ∷ []) ≡ None)
    by true is = (rw is refl, rw is refl, rw is refl)
    by false is = (rw is refl, rw is refl, rw is refl)
plain_is (a ∷ b ∷ rest) none = (rw none refl, rw none refl, rw none refl)

-- how a long option is written
abbrev pub spelled : Text → Option Text → Text
spelled name None = name
spelled name (Some value) = name ++ 61 ∷ value

take-more : (n : ℕ) (x : ℕ) (xs : List ℕ) → take (1 + n) (x ∷ xs) ≡ x ∷ take n xs
take-more n x xs = let e : 1 + n ≡ suc n = omega arith in rw e refl

drop-more : (n : ℕ) (x : ℕ) (xs : List ℕ) → drop (1 + n + 1) (x ∷ xs) ≡ drop (n + 1) xs
drop-more n x xs = let e : 1 + n + 1 ≡ suc (n + 1) = omega arith in rw e refl

pub spelled-is : (text : List ℕ) → text ≡ spelled (name_and_value text).0 (name_and_value text).1
spelled-is [] = refl
spelled-is (x ∷ xs) = by (spelled-is xs) (x == 61) refl
  where
    inner : (b : Bool) (before after : List ℕ) → xs ≡ spelled before (if b then Some after else None)
        → x ∷ xs ≡ spelled (x ∷ before) (if b then Some after else None)
    inner true before after is = ap (λ t. x ∷ t) is
    inner false before after is = ap (λ t. x ∷ t) is

    by : xs ≡ spelled (name_and_value xs).0 (name_and_value xs).1 → (b : Bool) → (x == 61) ≡ b → x ∷ xs ≡ spelled (name_and_value (x ∷ xs)).0 (name_and_value (x ∷ xs)).1
    by more true is = let same : x ≡ 61 = eqb-true x 61 is in rw is (ap (λ y. y ∷ xs) same)
    by more false is =
        let n = position_or_len (λ y. y == 61) xs in
        rw is (rw (take-more n x xs, drop-more n x xs) (inner (has_byte 61 xs) (before_first (λ y. y == 61) xs) (after_first (λ y. y == 61) xs) more))

-- what a word that begins with `-` and is longer may be
pub data Dashed (word : List ℕ) : Type 0 where
  double : word ≡ codes "--" → Dashed word
  long : (name : Text) (value : Option Text) → is_end word ≡ false → long_of word ≡ Some (name, value) → word ≡ codes "--" ++ spelled name value → Dashed word
  short : (x : ℕ) (xs : List ℕ) → is_end word ≡ false → long_of word ≡ None → short_of word ≡ Some (x ∷ xs) → word ≡ 45 ∷ x ∷ xs → Dashed word

pub dashed_is : (word : List ℕ) → is_dashed word ≡ true → Dashed word
dashed_is [] is = absurd (cc is)
dashed_is (a ∷ []) is = absurd (cc is)
dashed_is (a ∷ b ∷ rest) is =
    let a_is : a ≡ 45 = eqb-true a 45 is in
    subst (λ y. Dashed (y ∷ b ∷ rest)) (sym a_is) (by (b == 45) refl rest)
  where
    by : (e : Bool) → (b == 45) ≡ e → (rest : List ℕ) → Dashed (45 ∷ b ∷ rest)
    by true same [] = let b_is : b ≡ 45 = eqb-true b 45 same in double (ap (λ y. 45 ∷ y ∷ []) b_is)
    by true same (x ∷ xs) =
        let b_is : b ≡ 45 = eqb-true b 45 same in
        subst (λ y. Dashed (45 ∷ y ∷ x ∷ xs)) (sym b_is)
        (long (name_and_value (x ∷ xs)).0 (name_and_value (x ∷ xs)).1 refl refl (ap (λ t. 45 ∷ 45 ∷ t) (spelled-is (x ∷ xs))))
    by false other rest = short b rest (rw other refl) (rw other refl) (rw other refl) refl

-- the characters behind the first `-`
pub has_char : (x : ℕ) (xs : List ℕ) → IsUtf8 (45 ∷ x ∷ xs) → (y : ℕ) × (slice_get (chars (x ∷ xs)) 0 ≡ Some y)
unfolding chars encode_utf8
has_char x xs utf8 = by (chars (x ∷ xs)) refl
  where
    by : (cs : List ℕ) → chars (x ∷ xs) ≡ cs → (y : ℕ) × (slice_get (chars (x ∷ xs)) 0 ≡ Some y)
    by (y ∷ ys) is = (y, ap (λ cs. slice_get cs 0) is)
    by [] is =
        let whole : chars (45 ∷ x ∷ xs) ≡ 45 ∷ [] = ap (λ cs. 45 ∷ cs) is in
        let bad = sym (encodes-chars (45 ∷ x ∷ xs) utf8) ∙ ap encode_utf8_all whole in
        absurd (cc bad)
