-- The names and texts in the tokens of a file are texts.
use Rattle.std.proofs.Common.{◌≡◌, ℕ, zero, suc, ◌+◌, ◌<◌, List, [], ◌∷◌, ◌++◌, length, drop, get_or, true, refl, sym, ap, ◌∙◌, subst, arith, append_assoc}
use Rattle.std.proofs.lemmas.Bool.{and_parts, and_from}
use Rattle.std.proofs.lemmas.Bool.Decides.{nat_tests}
use Rattle.std.proofs.lemmas.List.{take_at, drop_at, get_or_at, length-append}
use Rattle.std.proofs.lemmas.List.Elements.{All-nil, All-cons}
use Rattle.std.proofs.lemmas.Str.{IsUtf8-append, IsUtf8-nil, IsUtf8-take, IsUtf8-drop, IsUtf8-from_ascii, IsCharBoundary-before_ascii, IsCharBoundary-after_ascii}
use Rattle.std.specs.List.{flat_map, list_all}
use Rattle.std.specs.Str.{IsUtf8}
use Rattle.st_num.specs.declared.token.Token.{Token}
use Rattle.st_num.specs.declared.token.TokenKind.{TokenKind}
use Rattle.st_num.specs.declared.token.TokenKind.TheVariants.{Low, Up, Mix, Reserved, Number, Text, Dot, Fun, Sign}
use Rattle.st_scan.specs.Bytes.{is_name_part, is_text_byte}
use Rattle.st_scan.specs.Spelling.{Spells, is_name}
use Rattle.st_num.specs.Texts.{escaped, quoted}
use Rattle.st_scan.specs.Tokens.{Run}
use Rattle.st_scan.specs.Answers.{IsText, text_in, HaveTexts}
use Rattle.st_scan.proofs.Gaps.{gap_is_end}
use Rattle.st_scan.proofs.Spelled.{name_parts}
use Rattle.st_scan.proofs.Texts.{Escaping, escaping, quote, backslash, feed, tab, plain, quoted_behind}

-- ---- names

part_small : (b : ℕ) → is_name_part b ≡ true → b < 128
part_small b e = grind (arith, nat_tests)

part_text : (b : ℕ) → is_name_part b ≡ true → is_text_byte b ≡ true
part_text b e = grind (arith, nat_tests)

parts_small : (name : List ℕ) → list_all is_name_part name ≡ true → (i : ℕ) → get_or name i 0 < 128
parts_small [] e i = omega arith
parts_small (b ∷ bs) e zero = part_small b (and_parts (is_name_part b) (list_all is_name_part bs) e).0
parts_small (b ∷ bs) e (suc i) = parts_small bs (and_parts (is_name_part b) (list_all is_name_part bs) e).1 i

parts_text : (name : List ℕ) → list_all is_name_part name ≡ true → list_all is_text_byte name ≡ true
parts_text [] e = refl
parts_text (b ∷ bs) e =
    let both = and_parts (is_name_part b) (list_all is_name_part bs) e in
    and_from (is_text_byte b) (list_all is_text_byte bs) (part_text b both.0) (parts_text bs both.1)

name_is_text : (name : List ℕ) → is_name name ≡ true → IsText name
name_is_text name e =
    let parts = name_parts name e in
    record { utf8 = IsUtf8-from_ascii name (parts_small name parts); printable = parts_text name parts }

nothing_is_text : IsText []
nothing_is_text = record { utf8 = IsUtf8-nil; printable = refl }

-- ---- texts

-- UTF-8 stands before and behind an ASCII byte
pub around_ascii : (front : List ℕ) (a : ℕ) (rest : List ℕ) → a < 128 → IsUtf8 (front ++ a ∷ rest) → IsUtf8 front × IsUtf8 rest
around_ascii front a rest small u =
    let whole : List ℕ = front ++ a ∷ rest in
    let long : length (front ++ a ∷ rest) ≡ length front + suc (length rest) = length-append front (a ∷ rest) in
    let at : get_or (front ++ a ∷ rest) (length front) 0 ≡ a = get_or_at front a rest 0 (length front) refl in
    let low : get_or (front ++ a ∷ rest) (length front) 0 < 128 = omega (arith, at, small) in
    let behind : front ++ a ∷ rest ≡ (front ++ a ∷ []) ++ rest = sym (append_assoc front (a ∷ []) rest) in
    let one : length (front ++ a ∷ []) ≡ length front + 1 = length-append front (a ∷ []) in (
      subst IsUtf8 (take_at front (a ∷ rest) (length front) refl) (IsUtf8-take (front ++ a ∷ rest) (length front) u (IsCharBoundary-before_ascii (front ++ a ∷ rest) (length front) (omega (arith, long)) low)),
      subst IsUtf8 (ap (drop (length front + 1)) behind ∙ drop_at (front ++ a ∷ []) rest (length front + 1) one) (IsUtf8-drop (front ++ a ∷ rest) (length front + 1) u (IsCharBoundary-after_ascii (front ++ a ∷ rest) (length front) u (omega (arith, long)) low)),
    )

one_byte : (b : ℕ) → b < 128 → IsUtf8 (b ∷ [])
one_byte b small = IsUtf8-from_ascii (b ∷ []) go
  where
    go : (i : ℕ) → get_or (b ∷ []) i 0 < 128
    go zero = small
    go (suc i) = omega arith

-- a byte in the place of its escape
unescaped : (front : List ℕ) (b letter : ℕ) (rest : List ℕ) → b < 128 → letter < 128 → escaped b ≡ 92 ∷ letter ∷ [] → IsUtf8 (front ++ (escaped b ++ rest)) → IsUtf8 ((front ++ b ∷ []) ++ rest)
unescaped front b letter rest small low e u =
    let outer = around_ascii front 92 (letter ∷ rest) (omega arith) (subst (λ w. IsUtf8 (front ++ (w ++ rest))) e u) in
    let inner = around_ascii [] letter rest low outer.1 in
    IsUtf8-append (front ++ b ∷ []) rest (IsUtf8-append front (b ∷ []) outer.0 (one_byte b small)) inner.1

-- the bytes that a text stands for are UTF-8 where its spelling is
text_utf8 : (front text : List ℕ) → IsUtf8 (front ++ flat_map escaped text) → IsUtf8 (front ++ text)
text_utf8 front [] u = u
text_utf8 front (b ∷ bs) u = subst IsUtf8 (append_assoc front (b ∷ []) bs) (text_utf8 (front ++ b ∷ []) bs (go (escaping b)))
  where
    go : Escaping b → IsUtf8 ((front ++ b ∷ []) ++ flat_map escaped bs)
    go (quote e w) = unescaped front b 34 (flat_map escaped bs) (omega (arith, e)) (omega arith) w u
    go (backslash e w) = unescaped front b 92 (flat_map escaped bs) (omega (arith, e)) (omega arith) w u
    go (feed e w) = unescaped front b 110 (flat_map escaped bs) (omega (arith, e)) (omega arith) w u
    go (tab e w) = unescaped front b 116 (flat_map escaped bs) (omega (arith, e)) (omega arith) w u
    go (plain n m k l w) = subst IsUtf8 (ap (λ v. front ++ (v ++ flat_map escaped bs)) w ∙ sym (append_assoc front (b ∷ []) (flat_map escaped bs))) u

content_utf8 : (front text rest : List ℕ) → IsUtf8 (front ++ (quoted text ++ rest)) → IsUtf8 text
content_utf8 front text rest u =
    let behind = (around_ascii front 34 (flat_map escaped text ++ 34 ∷ rest) (omega arith) (subst (λ w. IsUtf8 (front ++ w)) (quoted_behind text rest) u)).1 in
    text_utf8 [] text (around_ascii (flat_map escaped text) 34 rest (omega arith) behind).0

-- ---- all tokens

kind_text : (front text rest : List ℕ) (kind : TokenKind) → IsUtf8 (front ++ (text ++ rest)) → Spells text kind → IsText (text_in kind)
kind_text front text rest (Low name) u s = name_is_text name s.1
kind_text front text rest (Up name) u s = name_is_text name s.1
kind_text front text rest (Mix name) u s = name_is_text name s.1
kind_text front text rest (Reserved w) u s = nothing_is_text
kind_text front text rest (Number n) u s = nothing_is_text
kind_text front text rest (Text c) u s =
    record { utf8 = content_utf8 front c rest (subst (λ w. IsUtf8 (front ++ (w ++ rest))) s.0 u); printable = s.1 }
kind_text front text rest (Dot name) u s = name_is_text name s.1
kind_text front text rest (Fun name) u s = name_is_text name s.1
kind_text front text rest (Sign m) u s = nothing_is_text

pub run_texts : (number : ℕ) (file front rest : List ℕ) (tokens : List Token) (left : List ℕ) → IsUtf8 file → file ≡ front ++ rest → Run number file rest tokens left → HaveTexts tokens
run_texts number file front rest [] left u e run = All-nil (λ token. IsText (text_in token.kind))
run_texts number file front rest (t ∷ ts) left u e run =
    let g = gap_is_end rest in
    let next = run.1 in
    let here : file ≡ (front ++ g.front) ++ (next.text ++ run.0) =
    e ∙ ap (λ w. front ++ w) (g.joined ∙ ap (λ w. g.front ++ w) next.longest.split) ∙ sym (append_assoc front g.front (next.text ++ run.0)) in
    let behind : file ≡ ((front ++ g.front) ++ next.text) ++ run.0 = here ∙ sym (append_assoc (front ++ g.front) next.text run.0) in
    All-cons (λ token. IsText (text_in token.kind)) t ts
    (kind_text (front ++ g.front) next.text run.0 t.kind (subst IsUtf8 here u) next.longest.spelled)
    (run_texts number file ((front ++ g.front) ++ next.text) run.0 ts left u behind run.2)
