-- What some bytes spell is told by how they begin, and is one token.
use Rattle.std.proofs.Common.{◌≡◌, ℕ, ◌<◌, List, [], ◌∷◌, ◌++◌, true, false, refl, sym, ap, ◌∙◌, subst, if◌then◌else◌, arith, inl, inr, ◌&&◌, ◌||◌, ◌==◌, codes}
use Rattle.std.proofs.lemmas.Bool.{and_parts, and_from, false≢true}
use Rattle.std.proofs.lemmas.Bool.Decides.{nat_tests}
use Rattle.std.specs.Char.{digit_value}
use Rattle.std.specs.Str.Parse.{IsNumeral, digits_value}
use Rattle.std.specs.Str.{bytes_eq}
use Rattle.std.specs.List.{list_all, list_any}
use Rattle.st_num.specs.Signs.{spelling}
use Rattle.st_num.specs.declared.mark.Mark.{Mark}
use Rattle.st_num.specs.declared.mark.Mark.TheVariants.{Turnstile}
use Rattle.st_num.specs.declared.mark.TheConstants.Mark.{ALL as SIGNS}
use Rattle.st_num.specs.declared.word.TheConstants.Word.{ALL as WORDS}
use Rattle.st_num.specs.declared.word.Word.{Word}
use Rattle.st_num.specs.declared.word.Word.TheVariants.{Syntax}
use Rattle.st_num.specs.declared.token.TokenKind.{TokenKind}
use Rattle.st_num.specs.declared.token.TokenKind.TheVariants.{Low, Up, Mix, Reserved, Number, Text, Dot, Fun, Sign}
use Rattle.st_scan.specs.Bytes.{is_letter, is_lower, is_digit, is_name_part, is_text_byte}
use Rattle.st_num.specs.Words.{word_spelling}
use Rattle.st_num.specs.Numeral.{Spells as SpellsNumber}
use Rattle.st_scan.specs.Spelling.{Spells, is_name, begins_lower, has_lower}
use Rattle.st_num.specs.Texts.{quoted}
use Rattle.st_scan.specs.inner.Readings.{begins_letter}
use Rattle.st_scan.proofs.Texts.{tail_of, texts_unique}

-- ---- the kinds that begin in the same way

abbrev pub group : TokenKind → ℕ
group (Low _) = 0
group (Up _) = 0
group (Mix _) = 0
group (Reserved _) = 0
group (Number _) = 1
group (Text _) = 2
group (Dot _) = 3
group (Fun _) = 4
group (Sign _) = 5

-- which of them begin so
abbrev pub group_at : List ℕ → ℕ
group_at [] = 6
group_at (b ∷ bs) =
    if is_letter b then 0
    else if is_digit b then 1
    else if b == 34 then 2
    else if b == 46 && begins_letter bs then 3
    else if b == 36 && begins_lower bs then 4
    else 5

pub letter_group : (b : ℕ) (bs : List ℕ) → is_letter b ≡ true → group_at (b ∷ bs) ≡ 0
letter_group b bs e = ap (λ t. if t then 0 else if is_digit b then 1 else if b == 34 then 2 else if b == 46 && begins_letter bs then 3 else if b == 36 && begins_lower bs then 4 else 5) e

digit_no_letter : (b : ℕ) → is_digit b ≡ true → is_letter b ≡ false
digit_no_letter b e = grind (arith, nat_tests)

pub digit_group : (b : ℕ) (bs : List ℕ) → is_digit b ≡ true → group_at (b ∷ bs) ≡ 1
digit_group b bs e =
    ap (λ t. if t then 0 else if is_digit b then 1 else if b == 34 then 2 else if b == 46 && begins_letter bs then 3 else if b == 36 && begins_lower bs then 4 else 5) (digit_no_letter b e)
    ∙ ap (λ t. if t then 1 else if b == 34 then 2 else if b == 46 && begins_letter bs then 3 else if b == 36 && begins_lower bs then 4 else 5) e

pub digit_test : (b : ℕ) → digit_value b < 10 → is_digit b ≡ true
digit_test b h = grind (arith, nat_tests)

-- a name begins with a letter
name_letter : (name : List ℕ) → is_name name ≡ true → begins_letter name ≡ true
name_letter [] e = absurd (false≢true e)
name_letter (b ∷ bs) e = (and_parts (is_letter b) (list_all is_name_part bs) e).0

letter_front : (name more : List ℕ) → begins_letter name ≡ true → begins_letter (name ++ more) ≡ true
letter_front [] more e = absurd (false≢true e)
letter_front (b ∷ bs) more e = e

lower_front : (name more : List ℕ) → begins_lower name ≡ true → begins_lower (name ++ more) ≡ true
lower_front [] more e = absurd (false≢true e)
lower_front (b ∷ bs) more e = e

name_group : (name more : List ℕ) → is_name name ≡ true → group_at (name ++ more) ≡ 0
name_group [] more e = absurd (false≢true e)
name_group (b ∷ bs) more e = letter_group b (bs ++ more) (and_parts (is_letter b) (list_all is_name_part bs) e).0

word_group : (w : Word) (more : List ℕ) → group_at (word_spelling w ++ more) ≡ 0
word_group Syntax more = refl
word_group _ more = refl

sign_group : (m : Mark) (more : List ℕ) → group_at (spelling m ++ more) ≡ 5
sign_group Turnstile more = refl
sign_group _ more = refl

number_group : (text more : List ℕ) (n : ℕ) → SpellsNumber text n → group_at (text ++ more) ≡ 1
number_group [] more n (inl s) = absurd (omega (arith, s.0.0))
number_group (b ∷ bs) more n (inl s) = digit_group b (bs ++ more) (digit_test b s.0.1.0)
number_group text more n (inr s) = ap (λ u. group_at (u ++ more)) s.1

-- the bytes from which a token is spelled begin as its group does
pub spelled_group : (text more : List ℕ) (kind : TokenKind) → Spells text kind → group_at (text ++ more) ≡ group kind
spelled_group text more (Low name) s = ap (λ u. group_at (u ++ more)) s.0 ∙ name_group name more s.1
spelled_group text more (Up name) s = ap (λ u. group_at (u ++ more)) s.0 ∙ name_group name more s.1
spelled_group text more (Mix name) s = ap (λ u. group_at (u ++ more)) s.0 ∙ name_group name more s.1
spelled_group text more (Reserved w) s = ap (λ u. group_at (u ++ more)) s ∙ word_group w more
spelled_group text more (Number n) s = number_group text more n s
spelled_group text more (Text c) s = ap (λ u. group_at (u ++ more)) s.0
spelled_group text more (Dot name) s =
    ap (λ u. group_at (u ++ more)) s.0
    ∙ ap (λ t. if t then 3 else 5) (letter_front name more (name_letter name s.1))
spelled_group text more (Fun name) s =
    ap (λ u. group_at (u ++ more)) s.0
    ∙ ap (λ t. if t then 4 else 5) (lower_front name more s.2)
spelled_group text more (Sign m) s = ap (λ u. group_at (u ++ more)) s ∙ sign_group m more

group_below : (kind : TokenKind) → group kind < 6
group_below (Low name) = omega arith
group_below _ = omega arith

-- no token is spelled by nothing
pub spelled_some : (kind : TokenKind) → ¬ (Spells [] kind)
spelled_some kind s = absurd (omega (arith, spelled_group [] [] kind s, group_below kind))

-- ---- what a token of each group is

pub name_parts : (name : List ℕ) → is_name name ≡ true → list_all is_name_part name ≡ true
name_parts [] e = absurd (false≢true e)
name_parts (b ∷ bs) e =
    let both = and_parts (is_letter b) (list_all is_name_part bs) e in
    and_from (is_name_part b) (list_all is_name_part bs) (part_letter b both.0) both.1
  where
    part_letter : (c : ℕ) → is_letter c ≡ true → is_name_part c ≡ true
    part_letter c h = ap (λ t. t || is_digit c || c == 95 || c == 39) h

word_parts : (w : Word) → list_all is_name_part (word_spelling w) ≡ true
word_parts Syntax = refl
word_parts _ = refl

pub as_word : (text : List ℕ) (kind : TokenKind) → group kind ≡ 0 → Spells text kind → list_all is_name_part text ≡ true
as_word text (Low name) g s = ap (list_all is_name_part) s.0 ∙ name_parts name s.1
as_word text (Up name) g s = ap (list_all is_name_part) s.0 ∙ name_parts name s.1
as_word text (Mix name) g s = ap (list_all is_name_part) s.0 ∙ name_parts name s.1
as_word text (Reserved w) g s = ap (list_all is_name_part) s ∙ word_parts w
as_word text _ g s = absurd (omega (arith, g))

pub as_number : (text : List ℕ) (kind : TokenKind) → group kind ≡ 1 → Spells text kind → (n : ℕ) × (kind ≡ Number n) × SpellsNumber text n
as_number text (Number n) g s = (n, refl, s)
as_number text _ g s = absurd (omega (arith, g))

pub as_text : (text : List ℕ) (kind : TokenKind) → group kind ≡ 2 → Spells text kind → (c : List ℕ) × (kind ≡ Text c) × (text ≡ quoted c) × (list_all is_text_byte c ≡ true)
as_text text (Text c) g s = (c, refl, s.0, s.1)
as_text text _ g s = absurd (omega (arith, g))

pub as_dot : (text : List ℕ) (kind : TokenKind) → group kind ≡ 3 → Spells text kind → (name : List ℕ) × (kind ≡ Dot name) × (text ≡ 46 ∷ name) × (list_all is_name_part name ≡ true)
as_dot text (Dot name) g s = (name, refl, s.0, name_parts name s.1)
as_dot text _ g s = absurd (omega (arith, g))

pub as_fun : (text : List ℕ) (kind : TokenKind) → group kind ≡ 4 → Spells text kind → (name : List ℕ) × (kind ≡ Fun name) × (text ≡ 36 ∷ name) × (list_all is_name_part name ≡ true)
as_fun text (Fun name) g s = (name, refl, s.0, name_parts name s.1)
as_fun text _ g s = absurd (omega (arith, g))

pub as_sign : (text : List ℕ) (kind : TokenKind) → group kind ≡ 5 → Spells text kind → (m : Mark) × (kind ≡ Sign m) × (text ≡ spelling m)
as_sign text (Sign m) g s = (m, refl, s)
as_sign text _ g s = absurd (omega (arith, g))

-- ---- two words and two signs are written in two ways

first_word : List Word → List ℕ → Word
first_word [] text = Syntax
first_word (w ∷ ws) text = if bytes_eq (word_spelling w) text then w else first_word ws text

word_back : (w : Word) → first_word WORDS (word_spelling w) ≡ w
unfolding first_word
word_back Syntax = refl
word_back _ = refl

pub words_unique : (v w : Word) → word_spelling v ≡ word_spelling w → v ≡ w
words_unique v w e = sym (word_back v) ∙ ap (first_word WORDS) e ∙ word_back w

first_sign : List Mark → List ℕ → Mark
first_sign [] text = Turnstile
first_sign (m ∷ ms) text = if bytes_eq (spelling m) text then m else first_sign ms text

sign_back : (m : Mark) → first_sign SIGNS (spelling m) ≡ m
unfolding first_sign
sign_back Turnstile = refl
sign_back _ = refl

pub signs_unique : (j m : Mark) → spelling j ≡ spelling m → j ≡ m
signs_unique j m e = sym (sign_back j) ∙ ap (first_sign SIGNS) e ∙ sign_back m

-- ---- some bytes spell one token

has_from_begins : (name : List ℕ) → begins_lower name ≡ true → has_lower name ≡ true
has_from_begins [] e = absurd (false≢true e)
has_from_begins (b ∷ bs) e = ap (λ t. t || list_any is_lower bs) e

word_begins : (w : Word) → begins_lower (word_spelling w) ≡ true
word_begins Syntax = refl
word_begins _ = refl

no_decimal : (text digits : List ℕ) → text ≡ codes "0x" ++ digits → ¬ (IsNumeral 10 text)
no_decimal text digits e h = let w : IsNumeral 10 (codes "0x" ++ digits) = subst (IsNumeral 10) e h in omega (arith, w.1.1.0)

pub numbers_unique : (text : List ℕ) (m n : ℕ) → SpellsNumber text m → SpellsNumber text n → m ≡ n
numbers_unique text m n (inl s) (inl t) = s.1 ∙ sym t.1
numbers_unique text m n (inl s) (inr t) = absurd (no_decimal text t.0 t.1 s.0)
numbers_unique text m n (inr s) (inl t) = absurd (no_decimal text s.0 s.1 t.0)
numbers_unique text m n (inr s) (inr t) =
    let same : s.0 ≡ t.0 = ap (λ u. tail_of (tail_of u)) (sym s.1 ∙ t.1) in
    s.2.1 ∙ ap (digits_value 16) same ∙ sym t.2.1

-- a name is not of two kinds
low_not_up : (a b : List ℕ) → a ≡ b → begins_lower a ≡ true → ¬ (has_lower b ≡ false)
low_not_up a b e p q = false≢true (sym q ∙ ap has_lower (sym e) ∙ has_from_begins a p)

low_not_mix : (a b : List ℕ) → a ≡ b → begins_lower a ≡ true → ¬ (begins_lower b ≡ false)
low_not_mix a b e p q = false≢true (sym q ∙ ap begins_lower (sym e) ∙ p)

up_not_mix : (a b : List ℕ) → a ≡ b → has_lower a ≡ false → ¬ (has_lower b ≡ true)
up_not_mix a b e p q = false≢true (sym p ∙ ap has_lower e ∙ q)

pub same_kind : (text : List ℕ) (j k : TokenKind) → Spells text j → Spells text k → j ≡ k
same_kind text (Low a) (Low b) s t = ap Low (sym s.0 ∙ t.0)
same_kind text (Low a) (Up b) s t = absurd (low_not_up a b (sym s.0 ∙ t.0) s.2 t.2)
same_kind text (Low a) (Mix b) s t = absurd (low_not_mix a b (sym s.0 ∙ t.0) s.2 t.2)
same_kind text (Low a) (Reserved w) s t = absurd (s.3 (w, sym s.0 ∙ t))
same_kind text (Up a) (Low b) s t = absurd (low_not_up b a (sym t.0 ∙ s.0) t.2 s.2)
same_kind text (Up a) (Up b) s t = ap Up (sym s.0 ∙ t.0)
same_kind text (Up a) (Mix b) s t = absurd (up_not_mix a b (sym s.0 ∙ t.0) s.2 t.3)
same_kind text (Up a) (Reserved w) s t = absurd (low_not_up (word_spelling w) a (sym t ∙ s.0) (word_begins w) s.2)
same_kind text (Mix a) (Low b) s t = absurd (low_not_mix b a (sym t.0 ∙ s.0) t.2 s.2)
same_kind text (Mix a) (Up b) s t = absurd (up_not_mix b a (sym t.0 ∙ s.0) t.2 s.3)
same_kind text (Mix a) (Mix b) s t = ap Mix (sym s.0 ∙ t.0)
same_kind text (Mix a) (Reserved w) s t = absurd (low_not_mix (word_spelling w) a (sym t ∙ s.0) (word_begins w) s.2)
same_kind text (Reserved v) (Low b) s t = absurd (t.3 (v, sym t.0 ∙ s))
same_kind text (Reserved v) (Up b) s t = absurd (low_not_up (word_spelling v) b (sym s ∙ t.0) (word_begins v) t.2)
same_kind text (Reserved v) (Mix b) s t = absurd (low_not_mix (word_spelling v) b (sym s ∙ t.0) (word_begins v) t.2)
same_kind text (Reserved v) (Reserved w) s t = ap Reserved (words_unique v w (sym s ∙ t))
same_kind text (Number m) (Number n) s t = ap Number (numbers_unique text m n s t)
same_kind text (Text c) (Text d) s t =
    ap Text (texts_unique c d [] [] (ap tail_of (sym s.0 ∙ t.0))).0
same_kind text (Dot a) (Dot b) s t = ap Dot (ap tail_of (sym s.0 ∙ t.0))
same_kind text (Fun a) (Fun b) s t = ap Fun (ap tail_of (sym s.0 ∙ t.0))
same_kind text (Sign j) (Sign m) s t = ap Sign (signs_unique j m (sym s ∙ t))
same_kind text j k s t = absurd (omega (arith, spelled_group text [] j s, spelled_group text [] k t))
