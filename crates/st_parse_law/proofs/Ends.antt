-- What stands directly behind a printed part, and with what a part begins.
use Rattle.std.proofs.Common.{◌≡◌, ℕ, List, [], ◌∷◌, ◌++◌, Bool, true, false, not, ◌&&◌, ◌||◌, refl, sym, ap, ◌∙◌, subst, ◌==◌}
use Rattle.std.proofs.lemmas.Bool.{ne_eqb}
use Rattle.st_num.specs.Signs.{spelling}
use Rattle.st_num.specs.declared.mark.Mark.{Mark}
use Rattle.st_num.specs.declared.mark.Mark.TheVariants.{CloseParen, CloseBracket, CloseBrace, Bar, Star, Plus, Question, OpenParen, OpenBracket, OpenBrace, OpenArith, TickParen, TickBracket, TickBrace, Caret}
use Rattle.st_scan.specs.Bytes.{is_letter, is_digit, is_name_part}
use Rattle.st_num.specs.declared.token.TokenKind.{TokenKind}
use Rattle.st_num.specs.declared.token.TokenKind.TheVariants.{Low, Up, Mix, Reserved, Number, Text, Dot, Fun, Sign}
use Rattle.st_parse_law.specs.Written.{ends_before}

-- a byte that stands directly behind a part
pub data End : Type 0 where
  blank : End
  close_round : End
  star : End
  plus : End
  comma : End
  point : End
  quest : End
  open_square : End
  close_square : End
  caret : End
  bar : End
  close_brace : End

abbrev pub byte : End → ℕ
byte blank = 32
byte close_round = 41
byte star = 42
byte plus = 43
byte comma = 44
byte point = 46
byte quest = 63
byte open_square = 91
byte close_square = 93
byte caret = 94
byte bar = 124
byte close_brace = 125

-- the byte may stand there, where this says whether a `+` may
abbrev pub allows : Bool → End → Bool
allows p plus = p
allows p e = true

-- nothing stands behind, or such a byte
pub data Clear (p : Bool) : List ℕ → Type 0 where
  at_end : Clear p []
  before : (e : End) (bs : List ℕ) → allows p e ≡ true → Clear p (byte e ∷ bs)

allows_more : (a b : Bool) (e : End) → (a ≡ true → b ≡ true) → allows a e ≡ true → allows b e ≡ true
allows_more a b plus m h = m h
allows_more a b _ m h = refl

pub clear_more : (a b : Bool) (bs : List ℕ) → (a ≡ true → b ≡ true) → Clear a bs → Clear b bs
clear_more a b _ m at_end = at_end
clear_more a b _ m (before e bs h) = before e bs (allows_more a b e m h)

no_part : (e : End) → is_name_part (byte e) ≡ false
no_part blank = refl
no_part _ = refl

-- a token that is no sign
abbrev pub is_word : TokenKind → Bool
is_word (Sign m) = false
is_word k = true

-- It ends before each of these bytes.
pub word_ends : (k : TokenKind) (p : Bool) (bs : List ℕ) → is_word k ≡ true → Clear p bs → ends_before k bs ≡ true
word_ends k p _ w at_end = refl
word_ends (Low n) p _ w (before e bs h) = ap not (no_part e)
word_ends (Up n) p _ w (before e bs h) = ap not (no_part e)
word_ends (Mix n) p _ w (before e bs h) = ap not (no_part e)
word_ends (Reserved n) p _ w (before e bs h) = ap not (no_part e)
word_ends (Number n) p _ w (before e bs h) = ap not (no_part e)
word_ends (Text n) p _ w (before e bs h) = refl
word_ends (Dot n) p _ w (before e bs h) = ap not (no_part e)
word_ends (Fun n) p _ w (before e bs h) = ap not (no_part e)
word_ends (Sign n) p _ w (before e bs h) = absurd (cc)

-- a sign that ends a part
pub data Last : Mark → Bool → Type 0 where
  last_round : Last CloseParen true
  last_square : Last CloseBracket true
  last_brace : Last CloseBrace true
  last_bar : Last Bar true
  last_star : Last Star true
  last_plus : Last Plus false
  last_quest : Last Question true

bar_byte : (e : End) (bs : List ℕ) → ends_before (Sign Bar) (byte e ∷ bs) ≡ true
bar_byte blank bs = refl
bar_byte _ bs = refl

plus_byte : (e : End) (bs : List ℕ) → allows false e ≡ true → ends_before (Sign Plus) (byte e ∷ bs) ≡ true
plus_byte plus bs h = absurd (cc)
plus_byte _ bs h = refl

last_byte : (m : Mark) (p : Bool) (e : End) (bs : List ℕ) → Last m p → allows p e ≡ true → ends_before (Sign m) (byte e ∷ bs) ≡ true
last_byte _ _ e bs last_round h = refl
last_byte _ _ e bs last_square h = refl
last_byte _ _ e bs last_brace h = refl
last_byte _ _ e bs last_bar h = bar_byte e bs
last_byte _ _ e bs last_star h = refl
last_byte _ _ e bs last_plus h = plus_byte e bs h
last_byte _ _ e bs last_quest h = refl

pub last_ends : (m : Mark) (p : Bool) (bs : List ℕ) → Last m p → Clear p bs → ends_before (Sign m) bs ≡ true
last_ends m p _ l at_end = refl
last_ends m p _ l (before e bs h) = last_byte m p e bs l h

-- ---- with what a part begins

-- no `;`, and no `-` but in arithmetic
pub record Front (arithmetic : Bool) (bs : List ℕ) : Type 0 where
  pub first : ℕ
  pub rest : List ℕ
  pub is : bs ≡ first ∷ rest
  pub no_semicolon : (first == 59) ≡ false
  pub no_minus : arithmetic ≡ false → (first == 45) ≡ false

pub front_more : (a : Bool) (bs more : List ℕ) → Front a bs → Front a (bs ++ more)
front_more a bs more f = record {
  first = f.first;
  rest = f.rest ++ more;
  is = ap (λ w. w ++ more) f.is;
  no_semicolon = f.no_semicolon;
  no_minus = f.no_minus;
}

pub letter_front : (a : Bool) (b : ℕ) (bs : List ℕ) → is_letter b ≡ true → Front a (b ∷ bs)
letter_front a b bs h = record {
  first = b;
  rest = bs;
  is = refl;
  no_semicolon = ne_eqb b 59 (λ e. let no : is_letter 59 ≡ true = ap is_letter (sym e) ∙ h in cc);
  no_minus = λ _. ne_eqb b 45 (λ e. let no : is_letter 45 ≡ true = ap is_letter (sym e) ∙ h in cc);
}

pub digit_front : (a : Bool) (b : ℕ) (bs : List ℕ) → is_digit b ≡ true → Front a (b ∷ bs)
digit_front a b bs h = record {
  first = b;
  rest = bs;
  is = refl;
  no_semicolon = ne_eqb b 59 (λ e. let no : is_digit 59 ≡ true = ap is_digit (sym e) ∙ h in cc);
  no_minus = λ _. ne_eqb b 45 (λ e. let no : is_digit 45 ≡ true = ap is_digit (sym e) ∙ h in cc);
}

-- an opening sign that a part touches, where this says whether the part may begin with `-`
pub data First : Mark → Bool → Type 0 where
  first_round : (a : Bool) → First OpenParen a
  first_square : (a : Bool) → First OpenBracket a
  first_brace : (a : Bool) → First OpenBrace a
  first_dollar : (a : Bool) → First OpenArith a
  first_tick_round : (a : Bool) → First TickParen a
  first_tick_square : (a : Bool) → First TickBracket a
  first_tick_brace : (a : Bool) → First TickBrace a
  first_caret : (a : Bool) → First Caret a
  first_bar : First Bar false

opens_byte : (m : Mark) (a : Bool) (b : ℕ) (bs : List ℕ) → First m a → (b == 59) ≡ false → (a ≡ false → (b == 45) ≡ false)
    → ends_before (Sign m) (b ∷ bs) ≡ true
opens_byte _ _ b bs (first_round _) s n = ap (λ t. not (t || false)) s
opens_byte _ _ b bs (first_square _) s n = refl
opens_byte _ _ b bs (first_brace _) s n = refl
opens_byte _ _ b bs (first_dollar _) s n = refl
opens_byte _ _ b bs (first_tick_round _) s n = refl
opens_byte _ _ b bs (first_tick_square _) s n = refl
opens_byte _ _ b bs (first_tick_brace _) s n = refl
opens_byte _ _ b bs (first_caret _) s n = refl
opens_byte _ _ b bs first_bar s n = ap (λ t. not (((t && true) || false) || false)) (n refl)

pub first_ends : (m : Mark) (a : Bool) (bs : List ℕ) → First m a → Front a bs → ends_before (Sign m) bs ≡ true
first_ends m a bs o f = subst (λ w. ends_before (Sign m) w ≡ true) (sym f.is) (opens_byte m a f.first f.rest o f.no_semicolon f.no_minus)

-- a sign that closes a bracket
pub data Closer : Mark → Type 0 where
  by_round : Closer CloseParen
  by_square : Closer CloseBracket
  by_brace : Closer CloseBrace
  by_bar : Closer Bar

pub closer_clear : (m : Mark) (p : Bool) (bs : List ℕ) → Closer m → Clear p (spelling m ++ bs)
closer_clear _ p bs by_round = before close_round bs refl
closer_clear _ p bs by_square = before close_square bs refl
closer_clear _ p bs by_brace = before close_brace bs refl
closer_clear _ p bs by_bar = before bar bs refl

pub closer_last : (m : Mark) → Closer m → Last m true
closer_last _ by_round = last_round
closer_last _ by_square = last_square
closer_last _ by_brace = last_brace
closer_last _ by_bar = last_bar
