-- The bytes of tokens that stand apart are UTF-8.
use Rattle.std.proofs.Common.{◌≡◌, ℕ, ◌<◌, List, [], ◌∷◌, ◌++◌, Bool, true, refl, sym, ap, ◌∙◌, subst, arith, append_assoc}
use Rattle.std.specs.Prelude.{nat_lt}
use Rattle.std.specs.List.{flat_map, list_all}
use Rattle.std.specs.Str.{IsAscii, IsUtf8}
use Rattle.std.proofs.lemmas.Bool.{and_parts}
use Rattle.std.proofs.lemmas.Bool.Decides.{nat_tests}
use Rattle.std.proofs.lemmas.Str.{IsUtf8-append, IsUtf8-nil, IsUtf8-from_ascii}
use Rattle.std.proofs.lemmas.Str.Ascii.{IsAscii-nil, IsAscii-cons}
use Rattle.st_num.specs.Signs.{spelling}
use Rattle.st_num.specs.declared.mark.Mark.{Mark}
use Rattle.st_num.specs.declared.mark.Mark.TheVariants.{Turnstile}
use Rattle.st_scan.specs.Bytes.{is_name_part}
use Rattle.st_scan.specs.Spelling.{Spells}
use Rattle.st_num.specs.Texts.{escaped, quoted}
use Rattle.st_num.specs.declared.token.TokenKind.{TokenKind}
use Rattle.st_num.specs.declared.token.TokenKind.TheVariants.{Low, Up, Mix, Reserved, Number, Text, Dot, Fun, Sign}
use Rattle.st_scan.proofs.Spelled.{name_parts, as_word}
use Rattle.st_scan.proofs.TextBytes.{around_ascii}
use Rattle.st_scan.proofs.Texts.{Escaping, escaping, quote, backslash, feed, tab, plain}
use Rattle.st_parse_law.specs.Written.{Piece, space, token, bytes_of, IsAllowed, AreApart}
use Rattle.st_parse_law.proofs.Longest.{number_parts}

-- ---- what is ASCII

abbrev is_ascii : ℕ → Bool
is_ascii b = nat_lt b 128

below : (b : ℕ) → is_ascii b ≡ true → b < 128
below b e = grind (arith, nat_tests)

all_ascii : (bs : List ℕ) → list_all is_ascii bs ≡ true → IsAscii bs
all_ascii [] e = IsAscii-nil
all_ascii (b ∷ bs) e =
    let both = and_parts (is_ascii b) (list_all is_ascii bs) e in
    IsAscii-cons b bs (below b both.0) (all_ascii bs both.1)

part_below : (b : ℕ) → is_name_part b ≡ true → b < 128
part_below b e = grind (arith, nat_tests)

parts_ascii : (name : List ℕ) → list_all is_name_part name ≡ true → IsAscii name
parts_ascii [] e = IsAscii-nil
parts_ascii (b ∷ bs) e =
    let both = and_parts (is_name_part b) (list_all is_name_part bs) e in
    IsAscii-cons b bs (part_below b both.0) (parts_ascii bs both.1)

pub parts_utf8 : (name : List ℕ) → list_all is_name_part name ≡ true → IsUtf8 name
parts_utf8 name e = IsUtf8-from_ascii name (parts_ascii name e)

sign_ascii : (m : Mark) → list_all is_ascii (spelling m) ≡ true
sign_ascii Turnstile = refl
sign_ascii _ = refl

-- ---- texts in their quotes

pub behind_ascii : (b : ℕ) (bs : List ℕ) → b < 128 → IsUtf8 bs → IsUtf8 (b ∷ bs)
behind_ascii b bs low u = IsUtf8-append (b ∷ []) bs (IsUtf8-from_ascii (b ∷ []) (IsAscii-cons b [] low IsAscii-nil)) u

-- a byte's escape in its place
escape_utf8 : (front : List ℕ) (b letter : ℕ) (rest : List ℕ) → b < 128 → letter < 128 → escaped b ≡ 92 ∷ letter ∷ [] → IsUtf8 (front ++ b ∷ rest) → IsUtf8 ((front ++ escaped b) ++ rest)
escape_utf8 front b letter rest small low e u =
    let both = around_ascii front b rest small u in
    let escape : IsUtf8 (escaped b) = subst IsUtf8 (sym e) (behind_ascii 92 (letter ∷ []) (omega arith) (behind_ascii letter [] low IsUtf8-nil)) in
    IsUtf8-append (front ++ escaped b) rest (IsUtf8-append front (escaped b) both.0 escape) both.1

escaped_utf8 : (front text : List ℕ) → IsUtf8 (front ++ text) → IsUtf8 (front ++ flat_map escaped text)
escaped_utf8 front [] u = u
escaped_utf8 front (b ∷ bs) u = subst IsUtf8 (append_assoc front (escaped b) (flat_map escaped bs)) (escaped_utf8 (front ++ escaped b) bs (go (escaping b)))
  where
    go : Escaping b → IsUtf8 ((front ++ escaped b) ++ bs)
    go (quote e w) = escape_utf8 front b 34 bs (omega (arith, e)) (omega arith) w u
    go (backslash e w) = escape_utf8 front b 92 bs (omega (arith, e)) (omega arith) w u
    go (feed e w) = escape_utf8 front b 110 bs (omega (arith, e)) (omega arith) w u
    go (tab e w) = escape_utf8 front b 116 bs (omega (arith, e)) (omega arith) w u
    go (plain n m k l w) = subst IsUtf8 (sym (ap (λ v. (front ++ v) ++ bs) w ∙ append_assoc front (b ∷ []) bs)) u

quoted_utf8 : (text : List ℕ) → IsUtf8 text → IsUtf8 (quoted text)
quoted_utf8 text u =
    behind_ascii 34 (flat_map escaped text ++ 34 ∷ []) (omega arith)
    (IsUtf8-append (flat_map escaped text) (34 ∷ []) (escaped_utf8 [] text u) (behind_ascii 34 [] (omega arith) IsUtf8-nil))

-- ---- tokens and pieces

token_utf8 : (text : List ℕ) (k : TokenKind) → Spells text k → IsAllowed k → IsUtf8 text
token_utf8 text (Low n) s a = parts_utf8 text (as_word text (Low n) refl s)
token_utf8 text (Up n) s a = parts_utf8 text (as_word text (Up n) refl s)
token_utf8 text (Mix n) s a = parts_utf8 text (as_word text (Mix n) refl s)
token_utf8 text (Reserved w) s a = parts_utf8 text (as_word text (Reserved w) refl s)
token_utf8 text (Number n) s a = parts_utf8 text (number_parts text n s)
token_utf8 text (Text t) s a = subst IsUtf8 (sym s.0) (quoted_utf8 t a)
token_utf8 text (Dot n) s a = subst IsUtf8 (sym s.0) (behind_ascii 46 n (omega arith) (parts_utf8 n (name_parts n s.1)))
token_utf8 text (Fun n) s a = subst IsUtf8 (sym s.0) (behind_ascii 36 n (omega arith) (parts_utf8 n (name_parts n s.1)))
token_utf8 text (Sign m) s a = subst IsUtf8 (sym s) (IsUtf8-from_ascii (spelling m) (all_ascii (spelling m) (sign_ascii m)))

pub apart_utf8 : (ps : List Piece) → AreApart ps → IsUtf8 (bytes_of ps)
apart_utf8 [] h = IsUtf8-nil
apart_utf8 (space ∷ ps) h = behind_ascii 32 (bytes_of ps) (omega arith) (apart_utf8 ps h)
apart_utf8 (token k text ∷ ps) h = IsUtf8-append text (bytes_of ps) (token_utf8 text k h.0 h.1) (apart_utf8 ps h.3)
