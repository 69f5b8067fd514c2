-- A token that ends before what stands behind it is the longest at its place.
use Rattle.std.proofs.Common.{◌≡◌, ◌≢◌, ℕ, ◌≤◌, ◌<◌, List, [], ◌∷◌, ◌++◌, length, Bool, true, false, not, refl, sym, ap, ◌∙◌, subst, cond, arith, ◌&&◌, ◌||◌, ◌==◌, ◌⊎◌, inl, inr, eqb, append_assoc}
use Rattle.std.proofs.lemmas.Bool.{ne_eqb, and_parts, and_from, or_parts, or_from, false≢true, cases_lt}
use Rattle.std.proofs.lemmas.Bool.Decides.{nat_tests, Decides-eqb}
use Rattle.std.proofs.lemmas.List.Sums.{take_while-cons}
use Rattle.std.proofs.lemmas.List.Folds.{list_any_at}
use Rattle.std.proofs.lemmas.Slice.Eq.{starts_is}
use Rattle.std.specs.List.{take_while, list_all, list_any, starts_with}
use Rattle.std.specs.Char.{digit_value}
use Rattle.std.specs.Str.Parse.{AllDigits}
use Rattle.st_num.specs.Signs.{spelling}
use Rattle.st_num.specs.Numeral.{Spells as SpellsNumber}
use Rattle.st_num.specs.declared.mark.Mark.{Mark}
use Rattle.st_num.specs.declared.mark.Mark.TheVariants.{Turnstile, Semicolon, OpenParen}
use Rattle.st_num.specs.declared.mark.TheConstants.Mark.{ALL as SIGNS}
use Rattle.st_num.specs.declared.token.TokenKind.{TokenKind}
use Rattle.st_num.specs.declared.token.TokenKind.TheVariants.{Low, Up, Mix, Reserved, Number, Text, Dot, Fun, Sign}
use Rattle.st_scan.specs.Bytes.{is_name_part, is_blank}
use Rattle.st_scan.specs.Gaps.{gap, between, opens_comment, opens, starts_line}
use Rattle.st_scan.specs.Spelling.{Spells}
use Rattle.st_num.specs.Texts.{quoted}
use Rattle.st_scan.specs.Tokens.{Longest}
use Rattle.st_scan.proofs.Tables.{sign_place, sign_there, sign_place_below}
use Rattle.st_scan.proofs.Texts.{heads, tail_of, texts_unique, quoted_behind}
use Rattle.st_scan.proofs.Gaps.{gap_ends, gap_last}
use Rattle.st_scan.proofs.Readings.{front_short}
use Rattle.st_scan.proofs.Spelled.{group, group_at, spelled_group, name_parts, as_word, as_number, as_text, as_dot, as_fun, as_sign}
use Rattle.st_parse_law.specs.Written.{opens_with, runs_on, ends_before}

-- ---- bytes that pass a test

-- nothing that passes stands at the front
abbrev pub stops : (ℕ → Bool) → List ℕ → Bool
stops p [] = true
stops p (b ∷ bs) = not (p b)

not-true : (b : Bool) → not b ≡ true → b ≡ false
not-true false e = refl
not-true true e = absurd (false≢true e)

-- what passes ends before what does not
pub front_whole : (p : ℕ → Bool) (text more : List ℕ) → list_all p text ≡ true → stops p more ≡ true
    → take_while p (text ++ more) ≡ text
front_whole p [] [] all s = refl
front_whole p [] (b ∷ bs) all s = take_while-cons p b bs ∙ ap (λ t. cond t (b ∷ take_while p bs) []) (not-true (p b) s)
front_whole p (a ∷ text) more all s =
    let both = and_parts (p a) (list_all p text) all in
    take_while-cons p a (text ++ more)
    ∙ ap (λ t. cond t (a ∷ take_while p (text ++ more)) []) both.0
    ∙ ap (λ u. a ∷ u) (front_whole p text more both.1 s)

-- another front that passes is no longer
pub no_longer : (p : ℕ → Bool) (text more other behind : List ℕ) → list_all p text ≡ true → stops p more ≡ true
    → text ++ more ≡ other ++ behind → list_all p other ≡ true → length other ≤ length text
no_longer p text more other behind all s split passes =
    subst (λ u. length other ≤ length u) (front_whole p text more all s)
    (front_short p (text ++ more) other behind split passes)

-- ---- numbers

digit_part : (b : ℕ) → digit_value b < 16 → is_name_part b ≡ true
digit_part b h = grind (arith, nat_tests)

digits_parts : (radix : ℕ) (text : List ℕ) → radix ≤ 16 → AllDigits radix text → list_all is_name_part text ≡ true
digits_parts radix [] h all = refl
digits_parts radix (b ∷ bs) h all =
    and_from (is_name_part b) (list_all is_name_part bs) (digit_part b (omega (arith, h, all.0))) (digits_parts radix bs h all.1)

pub number_parts : (text : List ℕ) (n : ℕ) → SpellsNumber text n → list_all is_name_part text ≡ true
number_parts text n (inl s) = digits_parts 10 text (omega arith) s.0.1
number_parts text n (inr s) = ap (list_all is_name_part) s.1 ∙ digits_parts 16 s.0 (omega arith) s.2.0.1

-- ---- signs

-- one of two fronts goes on where the other ends
record GoesOn (more front other : List ℕ) : Type 0 where
  byte : ℕ
  left : List ℕ
  behind : List ℕ
  here : more ≡ byte ∷ behind
  is : other ≡ front ++ byte ∷ left

goes_on : (front more other behind : List ℕ) → front ++ more ≡ other ++ behind → length front < length other → GoesOn more front other
goes_on [] more [] behind split h = absurd (omega (arith, h))
goes_on [] more (b ∷ other) behind split h = record { byte = b; left = other; behind = other ++ behind; here = split; is = refl }
goes_on (a ∷ front) more [] behind split h = absurd (omega (arith, h))
goes_on (a ∷ front) more (b ∷ other) behind split h =
    let on = goes_on front more other behind (ap tail_of split) (omega (arith, h)) in
    record {
      byte = on.byte;
      left = on.left;
      behind = on.behind;
      here = on.here;
      is = ap (λ c. c ∷ other) (sym (heads a b (front ++ more) (other ++ behind) split)) ∙ ap (λ u. a ∷ u) on.is;
    }

signs_many : length SIGNS ≡ 47
signs_many = refl

-- a longer sign is found among the signs
longer_found : (m j : Mark) (b : ℕ) (left : List ℕ) → spelling j ≡ spelling m ++ b ∷ left → runs_on m b ≡ true
longer_found m j b left is =
    ap (λ t. t || opens_with (spelling m) b)
    (list_any_at (λ other. starts_with eqb (spelling other) (spelling m ++ b ∷ [])) SIGNS (sign_place j) Turnstile
    (omega (arith, sign_place_below j, signs_many))
    (ap (λ other. starts_with eqb (spelling other) (spelling m ++ b ∷ [])) (sign_there j)
    ∙ (starts_is Decides-eqb (spelling j) (spelling m ++ b ∷ []) (starts_with eqb (spelling j) (spelling m ++ b ∷ [])) refl).1 left
    (is ∙ sym (append_assoc (spelling m) (b ∷ []) left))))

sign_short : (m j : Mark) (more behind : List ℕ) → ends_before (Sign m) more ≡ true
    → spelling m ++ more ≡ spelling j ++ behind → length (spelling j) ≤ length (spelling m)
sign_short m j more behind ends split = by (cases_lt (length (spelling m)) (length (spelling j)))
  where
    longer : (more : List ℕ) → ends_before (Sign m) more ≡ true → GoesOn more (spelling m) (spelling j) → ⊥
    longer [] e on = absurd (omega (arith, ap length on.here))
    longer (b ∷ bs) e on =
        let same : b ≡ on.byte = heads b on.byte bs on.behind on.here in
        false≢true (sym (ap not (longer_found m j on.byte on.left on.is)) ∙ ap (λ c. not (runs_on m c)) (sym same) ∙ e)

    by : (length (spelling m) < length (spelling j)) ⊎ (length (spelling j) ≤ length (spelling m)) → length (spelling j) ≤ length (spelling m)
    by (inl h) = absurd (longer more ends (goes_on (spelling m) more (spelling j) behind split h))
    by (inr h) = h

-- ---- no comment, and no blank

-- neither a blank nor a comment stands at the front
abbrev pub is_open : List ℕ → Bool
is_open [] = false
is_open (b ∷ []) = not (is_blank b)
is_open (b ∷ c ∷ bs) = not (is_blank b) && (not (starts_line b c) && not (opens b c))

is_not : (b : Bool) → not b ≡ true → b ≡ false
is_not false e = refl
is_not true e = absurd (false≢true e)

pub gap_open : (xs : List ℕ) → is_open xs ≡ true → gap between xs ≡ xs
gap_open [] e = absurd (false≢true e)
gap_open (b ∷ []) e = sym (gap_last b (b ∷ []) [] refl refl (is_not (is_blank b) e))
gap_open (b ∷ c ∷ bs) e =
    let both = and_parts (not (is_blank b)) (not (starts_line b c) && not (opens b c)) e in
    let rest = and_parts (not (starts_line b c)) (not (opens b c)) both.1 in
    sym (gap_ends b c (b ∷ c ∷ bs) (c ∷ bs) bs refl refl (is_not (is_blank b) both.0) (is_not (starts_line b c) rest.0) (is_not (opens b c) rest.1))

pub open_comment : (xs : List ℕ) → is_open xs ≡ true → opens_comment xs ≡ false
open_comment [] e = refl
open_comment (b ∷ []) e = refl
open_comment (b ∷ c ∷ bs) e =
    let both = and_parts (not (is_blank b)) (not (starts_line b c) && not (opens b c)) e in
    is_not (opens b c) (and_parts (not (starts_line b c)) (not (opens b c)) both.1).1

-- a byte that is neither blank nor the first of a comment
plain_open : (b : ℕ) (bs : List ℕ) → is_blank b ≡ false → (b == 59) ≡ false → (b == 40) ≡ false → is_open (b ∷ bs) ≡ true
plain_open b [] blank line comment = ap not blank
plain_open b (c ∷ bs) blank line comment =
    and_from (not (is_blank b)) (not (starts_line b c) && not (opens b c)) (ap not blank)
    (and_from (not (starts_line b c)) (not (opens b c)) (ap (λ t. not (t && c == 59)) line) (ap (λ t. not (t && c == 59)) comment))

other_byte : (b a : ℕ) (bs : List ℕ) → group_at (a ∷ bs) ≡ 5 → group_at (b ∷ bs) ≢ 5 → (b == a) ≡ false
other_byte b a bs five h = ne_eqb b a (λ is. h (ap (λ c. group_at (c ∷ bs)) is ∙ five))

-- what begins as a token that is no sign
unsigned_open : (xs : List ℕ) → xs ≢ [] → group_at xs ≢ 5 → is_open xs ≡ true
unsigned_open [] some h = absurd (some refl)
unsigned_open (b ∷ bs) some h =
    plain_open b bs
    (or_from (b == 32 || b == 9 || b == 13) (b == 10)
    (or_from (b == 32 || b == 9) (b == 13)
    (or_from (b == 32) (b == 9) (other_byte b 32 bs refl h) (other_byte b 9 bs refl h)) (other_byte b 13 bs refl h)) (other_byte b 10 bs refl h))
    (other_byte b 59 bs refl h) (other_byte b 40 bs refl h)

sign_alone : (m : Mark) → is_open (spelling m ++ []) ≡ true
sign_alone Turnstile = refl
sign_alone _ = refl

semicolon_open : (b : ℕ) (bs : List ℕ) → opens_with (59 ∷ []) b ≡ false → is_open (59 ∷ b ∷ bs) ≡ true
semicolon_open b bs e = by (b == 59) e
  where
    by : (t : Bool) → t ≡ false → (not t && true) ≡ true
    by false h = refl
    by true h = absurd (false≢true (sym h))

paren_open : (b : ℕ) (bs : List ℕ) → opens_with (40 ∷ []) b ≡ false → is_open (40 ∷ b ∷ bs) ≡ true
paren_open b bs e = by (b == 59) (or_parts (b == 59) false e).0
  where
    by : (t : Bool) → t ≡ false → not t ≡ true
    by false h = refl
    by true h = absurd (false≢true (sym h))

sign_before : (m : Mark) (b : ℕ) (bs : List ℕ) → opens_with (spelling m) b ≡ false → is_open (spelling m ++ b ∷ bs) ≡ true
sign_before Semicolon b bs e = semicolon_open b bs e
sign_before OpenParen b bs e = paren_open b bs e
sign_before _ b bs e = refl

sign_open : (m : Mark) (more : List ℕ) → ends_before (Sign m) more ≡ true → is_open (spelling m ++ more) ≡ true
sign_open m [] e = sign_alone m
sign_open m (b ∷ bs) e =
    sign_before m b bs (or_parts (list_any (λ other. starts_with eqb (spelling other) (spelling m ++ b ∷ [])) SIGNS) (opens_with (spelling m) b) (is_not (runs_on m b) e)).1

-- ---- all tokens

-- the test that the bytes of a name or a number pass
word_stops : (kind : TokenKind) (more : List ℕ) → group kind ≢ 2 → group kind ≢ 5 → ends_before kind more ≡ true → stops is_name_part more ≡ true
word_stops kind [] g h e = refl
word_stops (Low name) (b ∷ bs) g h e = e
word_stops (Up name) (b ∷ bs) g h e = e
word_stops (Mix name) (b ∷ bs) g h e = e
word_stops (Reserved w) (b ∷ bs) g h e = e
word_stops (Number n) (b ∷ bs) g h e = e
word_stops (Dot name) (b ∷ bs) g h e = e
word_stops (Fun name) (b ∷ bs) g h e = e
word_stops (Text c) (b ∷ bs) g h e = absurd (g refl)
word_stops (Sign m) (b ∷ bs) g h e = absurd (h refl)

-- all tokens at one place are of one group
same_group : (text more other behind : List ℕ) (kind another : TokenKind) → Spells text kind → Spells other another
    → text ++ more ≡ other ++ behind → group another ≡ group kind
same_group text more other behind kind another s also split =
    sym (spelled_group other behind another also) ∙ ap group_at (sym split) ∙ spelled_group text more kind s

words_short : (text more other behind : List ℕ) (kind another : TokenKind) → group kind ≡ 0 → Spells text kind → stops is_name_part more ≡ true
    → text ++ more ≡ other ++ behind → Spells other another → length other ≤ length text
words_short text more other behind kind another g s st split also =
    no_longer is_name_part text more other behind (as_word text kind g s) st split
    (as_word other another (same_group text more other behind kind another s also split ∙ g) also)

numbers_short : (text more other behind : List ℕ) (n : ℕ) (another : TokenKind) → SpellsNumber text n → stops is_name_part more ≡ true
    → text ++ more ≡ other ++ behind → Spells other another → length other ≤ length text
numbers_short text more other behind n another s st split also =
    let found = as_number other another (same_group text more other behind (Number n) another s also split) also in
    no_longer is_name_part text more other behind (number_parts text n s) st split (number_parts other found.0 found.2)

-- names behind a sign of one byte
behind_sign : (sign : ℕ) (text more other behind name its : List ℕ) → text ≡ sign ∷ name → list_all is_name_part name ≡ true → stops is_name_part more ≡ true
    → text ++ more ≡ other ++ behind → other ≡ sign ∷ its → list_all is_name_part its ≡ true → length other ≤ length text
behind_sign sign text more other behind name its is all st split its_is parts =
    let short : length its ≤ length name =
    no_longer is_name_part name more its behind all st (ap tail_of (sym (ap (λ u. u ++ more) is) ∙ split ∙ ap (λ u. u ++ behind) its_is)) parts in
    omega (arith, short, ap length is, ap length its_is)

texts_short : (text more other behind c : List ℕ) (another : TokenKind) → Spells text (Text c)
    → text ++ more ≡ other ++ behind → Spells other another → length other ≤ length text
texts_short text more other behind c another s split also =
    let found = as_text other another (same_group text more other behind (Text c) another s also split) also in
    let both = texts_unique found.0 c behind more
    (ap tail_of (sym (quoted_behind found.0 behind) ∙ ap (λ u. u ++ behind) (sym found.2) ∙ sym split ∙ ap (λ u. u ++ more) s.0 ∙ quoted_behind c more)) in
    let same : length other ≡ length text = ap length (found.2 ∙ ap quoted both.0 ∙ sym s.0) in
    omega (arith, same)

signs_short : (text more other behind : List ℕ) (m : Mark) (another : TokenKind) → text ≡ spelling m → ends_before (Sign m) more ≡ true
    → text ++ more ≡ other ++ behind → Spells other another → length other ≤ length text
signs_short text more other behind m another s e split also =
    let found = as_sign other another (same_group text more other behind (Sign m) another s also split) also in
    let short = sign_short m found.0 more behind e (ap (λ u. u ++ more) (sym s) ∙ split ∙ ap (λ u. u ++ behind) found.2) in
    omega (arith, short, ap length s, ap length found.2)

short : (text more other behind : List ℕ) (kind another : TokenKind) → Spells text kind → ends_before kind more ≡ true
    → text ++ more ≡ other ++ behind → Spells other another → length other ≤ length text
short text more other behind (Low name) another s e split also = words_short text more other behind (Low name) another refl s (word_stops (Low name) more (λ h. absurd (omega (arith, h))) (λ h. absurd (omega (arith, h))) e) split also
short text more other behind (Up name) another s e split also = words_short text more other behind (Up name) another refl s (word_stops (Up name) more (λ h. absurd (omega (arith, h))) (λ h. absurd (omega (arith, h))) e) split also
short text more other behind (Mix name) another s e split also = words_short text more other behind (Mix name) another refl s (word_stops (Mix name) more (λ h. absurd (omega (arith, h))) (λ h. absurd (omega (arith, h))) e) split also
short text more other behind (Reserved w) another s e split also = words_short text more other behind (Reserved w) another refl s (word_stops (Reserved w) more (λ h. absurd (omega (arith, h))) (λ h. absurd (omega (arith, h))) e) split also
short text more other behind (Number n) another s e split also = numbers_short text more other behind n another s (word_stops (Number n) more (λ h. absurd (omega (arith, h))) (λ h. absurd (omega (arith, h))) e) split also
short text more other behind (Text c) another s e split also = texts_short text more other behind c another s split also
short text more other behind (Dot name) another s e split also =
    let found = as_dot other another (same_group text more other behind (Dot name) another s also split) also in
    behind_sign 46 text more other behind name found.0 s.0 (name_parts name s.1) (word_stops (Dot name) more (λ h. absurd (omega (arith, h))) (λ h. absurd (omega (arith, h))) e) split found.2 found.3
short text more other behind (Fun name) another s e split also =
    let found = as_fun other another (same_group text more other behind (Fun name) another s also split) also in
    behind_sign 36 text more other behind name found.0 s.0 (name_parts name s.1) (word_stops (Fun name) more (λ h. absurd (omega (arith, h))) (λ h. absurd (omega (arith, h))) e) split found.2 found.3
short text more other behind (Sign m) another s e split also = signs_short text more other behind m another s e split also

-- what is no sign begins neither as a blank nor as a comment
unsigned_token : (text more : List ℕ) (kind : TokenKind) → group kind < 5 → Spells text kind → is_open (text ++ more) ≡ true
unsigned_token text more kind h s =
    let begins = spelled_group text more kind s in
    unsigned_open (text ++ more)
    (λ none. absurd (omega (arith, h, sym begins ∙ ap group_at none)))
    (λ five. absurd (omega (arith, h, sym begins ∙ five)))

pub token_open : (text more : List ℕ) (kind : TokenKind) → Spells text kind → ends_before kind more ≡ true → is_open (text ++ more) ≡ true
token_open text more (Low name) s e = unsigned_token text more (Low name) (omega arith) s
token_open text more (Up name) s e = unsigned_token text more (Up name) (omega arith) s
token_open text more (Mix name) s e = unsigned_token text more (Mix name) (omega arith) s
token_open text more (Reserved w) s e = unsigned_token text more (Reserved w) (omega arith) s
token_open text more (Number n) s e = unsigned_token text more (Number n) (omega arith) s
token_open text more (Text c) s e = unsigned_token text more (Text c) (omega arith) s
token_open text more (Dot name) s e = unsigned_token text more (Dot name) (omega arith) s
token_open text more (Fun name) s e = unsigned_token text more (Fun name) (omega arith) s
token_open text more (Sign m) s e = ap (λ u. is_open (u ++ more)) s ∙ sign_open m more e

pub written_longest : (text more : List ℕ) (kind : TokenKind) → Spells text kind → ends_before kind more ≡ true → Longest (text ++ more) text more kind
written_longest text more kind s e = record {
  split = refl;
  spelled = s;
  longest = λ other behind another split also. short text more other behind kind another s e split also;
  no_comment = open_comment (text ++ more) (token_open text more kind s e);
}
