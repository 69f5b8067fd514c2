-- A tag has at most one list of parts.
use Rattle.std.proofs.Common.{Bor, ◌≡◌, refl, sym, ◌∙◌, ap, subst, ℕ, List, [], ◌∷◌, ◌++◌, append_assoc, append-nil, Bool, true, false, arith}
use Rattle.std.specs.Prelude.{Option, Some, None, IfSome, IfNone, MatchOption, ◌≢◌, ◌==◌, ◌||◌, IsTrue, bytes_eq, codes, if◌then◌else◌}
use Rattle.std.specs.Char.{is_ascii_uppercase}
use Rattle.std.specs.List.{All, AllByRecursion}
use Rattle.std.proofs.lemmas.List.Elements.{All-head, All-tail}
use Rattle.std.proofs.lemmas.Bool.Decides.{nat_tests}
use Rattle.st_num.specs.declared.mark.Mark.{Mark}
use Rattle.st_num.specs.declared.mark.Mark.TheVariants.{Turnstile, ReverseTurnstile, SquigglyArrowStar, SquigglyArrow, Colon, Subtype, Supertype, Approximately, Define, Semicolon, Arrow, DotDot, CloseParen, CloseBracket, CloseBrace, TickParen, TickBracket, TickBrace}
use Rattle.st_num.specs.Signs.{spelling}
use Rattle.st_num.specs.declared.mark.TheConstants.Mark.{ALL}
use Rattle.st_il.specs.declared.template.Role.TheVariants.{Other}
use Rattle.st_il.specs.declared.template.TagPart.{TagPart}
use Rattle.st_il.specs.declared.template.TagPart.TheVariants as tag_part
use Rattle.st_il.specs.Notation.{role_of, is_name_byte, IsUpName, IsAtom, single, dotted}
use Rattle.st_il.specs.Template.{written, spaced, IsTagPart, AreTagParts}

abbrev pub NoSpace : List ℕ → Type 0
NoSpace = AllByRecursion (λ byte. byte ≢ 32)

-- it has ended, or a space comes
abbrev pub Ended : List ℕ → Type 0
Ended [] = Unit {0}
Ended (byte ∷ bytes) = byte ≡ 32

-- what stands before the first space is told by the whole
pub cut : (a b r s : List ℕ) → NoSpace a → NoSpace b → Ended r → Ended s → a ++ r ≡ b ++ s → (a ≡ b) × (r ≡ s)
cut [] [] r s p q t u e = (refl, e)
cut [] (y ∷ b) r s p q t u e = let space : y ≡ 32 = subst Ended e t in absurd (q.0 space)
cut (x ∷ a) [] r s p q t u e = let space : x ≡ 32 = subst Ended (sym e) u in absurd (p.0 space)
cut (x ∷ a) (y ∷ b) r s p q t u e =
    let first : x ≡ y = cc in
    let rest : a ++ r ≡ b ++ s = cc in
    let c = cut a b r s p.1 q.1 t u rest in
    ((λ i. first i ∷ c.0 i), c.1)

-- ---- parts

no_space-append : (a b : List ℕ) → NoSpace a → NoSpace b → NoSpace (a ++ b)
no_space-append [] b p q = q
no_space-append (x ∷ a) b p q = (p.0, no_space-append a b p.1 q)

capital-no_space : (byte : ℕ) → IsTrue (is_ascii_uppercase byte) → byte ≢ 32
capital-no_space byte h e = grind (arith, nat_tests)

name_byte-no_space : (byte : ℕ) → IsTrue (is_name_byte byte) → byte ≢ 32
name_byte-no_space byte h e = let at : IsTrue (is_name_byte 32) = subst (λ b. IsTrue (is_name_byte b)) e h in absurd (cc)

name_bytes-no_space : (bytes : List ℕ) → AllByRecursion (λ b. IsTrue (is_name_byte b)) bytes → NoSpace bytes
name_bytes-no_space [] h = tt
name_bytes-no_space (byte ∷ bytes) h = (name_byte-no_space byte h.0, name_bytes-no_space bytes h.1)

name-no_space : (bytes : List ℕ) → IsUpName bytes → NoSpace bytes
name-no_space [] h = absurd h
name-no_space (byte ∷ bytes) h = (capital-no_space byte h.0, name_bytes-no_space bytes h.1)

atom-no_space : {bytes : List ℕ} → IsAtom bytes → NoSpace bytes
atom-no_space {bytes} (single u) = name-no_space bytes u
atom-no_space (dotted first rest e u d) = subst NoSpace (sym e) (no_space-append first (46 ∷ rest) (name-no_space first u) (omega arith, atom-no_space d))

-- whether a text has a space
abbrev has_space : List ℕ → Bool
has_space [] = false
has_space (byte ∷ bytes) = byte == 32 || has_space bytes

no_space-from : (bytes : List ℕ) → has_space bytes ≡ false → NoSpace bytes
no_space-from [] e = tt
no_space-from (byte ∷ bytes) e = go (byte == 32) refl e (λ g. no_space-from bytes g)
  where
    other : (byte == 32) ≡ false → byte ≢ 32
    other f h = grind (arith, nat_tests)

    go : (b : Bool) → (byte == 32) ≡ b → (b || has_space bytes) ≡ false → (has_space bytes ≡ false → NoSpace bytes) → NoSpace (byte ∷ bytes)
    go true f g rest = absurd (cc)
    go false f g rest = (other f, rest g)

sign-no_space : (sign : Mark) → role_of sign ≢ Other → NoSpace (spelling sign)
sign-no_space Turnstile h = no_space-from (codes "|-") refl
sign-no_space ReverseTurnstile h = no_space-from (codes "-|") refl
sign-no_space SquigglyArrowStar h = no_space-from (codes "~>*") refl
sign-no_space SquigglyArrow h = no_space-from (codes "~>") refl
sign-no_space Colon h = no_space-from (codes ":") refl
sign-no_space Subtype h = no_space-from (codes "<:") refl
sign-no_space Supertype h = no_space-from (codes ":>") refl
sign-no_space Approximately h = no_space-from (codes "~~") refl
sign-no_space Define h = no_space-from (codes ":=") refl
sign-no_space Semicolon h = no_space-from (codes ";") refl
sign-no_space Arrow h = no_space-from (codes "->") refl
sign-no_space DotDot h = no_space-from (codes "..") refl
sign-no_space CloseParen h = no_space-from (codes ")") refl
sign-no_space CloseBracket h = no_space-from (codes "]") refl
sign-no_space CloseBrace h = no_space-from (codes "}") refl
sign-no_space TickParen h = no_space-from (codes "`(") refl
sign-no_space TickBracket h = no_space-from (codes "`[") refl
sign-no_space TickBrace h = no_space-from (codes "`{") refl
sign-no_space _ h = absurd (h refl)

pub written-no_space : (w : TagPart) → IsTagPart w → NoSpace (written w)
written-no_space tag_part.Hole h = no_space-from (codes "%") refl
written-no_space (tag_part.Atom name) h = atom-no_space h
written-no_space (tag_part.Sign sign) h = sign-no_space sign h

-- ---- a part is told by how it is written

abbrev begins_capital : List ℕ → Bool
begins_capital [] = false
begins_capital (byte ∷ bytes) = is_ascii_uppercase byte

abbrev signs : List Mark
signs = Turnstile ∷ ReverseTurnstile ∷ SquigglyArrowStar ∷ SquigglyArrow ∷ Colon ∷ Subtype ∷ Supertype ∷ Approximately ∷ Define ∷ Semicolon ∷ Arrow ∷ DotDot ∷ CloseParen ∷ CloseBracket ∷ CloseBrace ∷ TickParen ∷ TickBracket ∷ TickBrace ∷ []

abbrev find_sign : List Mark → List ℕ → TagPart
find_sign [] text = tag_part.Hole
find_sign (sign ∷ more) text = if bytes_eq (spelling sign) text then tag_part.Sign sign else find_sign more text

-- the part that is written so
abbrev tag_part_at : List ℕ → TagPart
tag_part_at text = if begins_capital text then tag_part.Atom text else find_sign signs text

name-capital : (bytes more : List ℕ) → IsUpName bytes → begins_capital (bytes ++ more) ≡ true
name-capital [] more h = absurd h
name-capital (byte ∷ bytes) more h = h.0

atom-capital : {bytes : List ℕ} → IsAtom bytes → begins_capital bytes ≡ true
atom-capital {bytes} (single u) = ap begins_capital (sym (append-nil bytes)) ∙ name-capital bytes [] u
atom-capital (dotted first rest e u d) = ap begins_capital e ∙ name-capital first (46 ∷ rest) u

sign-back : (sign : Mark) → role_of sign ≢ Other → tag_part_at (spelling sign) ≡ tag_part.Sign sign
sign-back Turnstile h = refl
sign-back ReverseTurnstile h = refl
sign-back SquigglyArrowStar h = refl
sign-back SquigglyArrow h = refl
sign-back Colon h = refl
sign-back Subtype h = refl
sign-back Supertype h = refl
sign-back Approximately h = refl
sign-back Define h = refl
sign-back Semicolon h = refl
sign-back Arrow h = refl
sign-back DotDot h = refl
sign-back CloseParen h = refl
sign-back CloseBracket h = refl
sign-back CloseBrace h = refl
sign-back TickParen h = refl
sign-back TickBracket h = refl
sign-back TickBrace h = refl
sign-back _ h = absurd (h refl)

written-back : (w : TagPart) → IsTagPart w → tag_part_at (written w) ≡ w
written-back tag_part.Hole h = refl
written-back (tag_part.Atom name) h = ap (λ b. if b then tag_part.Atom name else find_sign signs name) (atom-capital h)
written-back (tag_part.Sign sign) h = sign-back sign h

pub written-same : (w v : TagPart) → IsTagPart w → IsTagPart v → written w ≡ written v → w ≡ v
written-same w v h k e = sym (written-back w h) ∙ ap tag_part_at e ∙ written-back v k

-- ---- parts with spaces between them

-- what stands behind a part
abbrev pub behind : List TagPart → List ℕ
behind [] = []
behind (w ∷ ws) = 32 ∷ spaced (w ∷ ws)

pub spaced-cons : (w : TagPart) (ws : List TagPart) → spaced (w ∷ ws) ≡ written w ++ behind ws
spaced-cons w [] = sym (append-nil (written w))
spaced-cons w (v ∷ vs) = refl

pub behind-ended : (ws : List TagPart) → Ended (behind ws)
behind-ended [] = tt
behind-ended (w ∷ ws) = refl

tag_parts-cut : (w : TagPart) (ws : List TagPart) (v : TagPart) (vs : List TagPart) → IsTagPart w → IsTagPart v → spaced (w ∷ ws) ≡ spaced (v ∷ vs) → (written w ≡ written v) × (behind ws ≡ behind vs)
tag_parts-cut w ws v vs h k e =
    cut (written w) (written v) (behind ws) (behind vs) (written-no_space w h) (written-no_space v k) (behind-ended ws) (behind-ended vs) (sym (spaced-cons w ws) ∙ e ∙ spaced-cons v vs)

pub tag_parts-same : (w : TagPart) (ws : List TagPart) (v : TagPart) (vs : List TagPart) → AllByRecursion IsTagPart (w ∷ ws) → AllByRecursion IsTagPart (v ∷ vs) → spaced (w ∷ ws) ≡ spaced (v ∷ vs) → w ∷ ws ≡ v ∷ vs
tag_parts-same w [] v [] h k e = let c = tag_parts-cut w [] v [] h.0 k.0 e in ap (λ x. x ∷ []) (written-same w v h.0 k.0 c.0)
tag_parts-same w [] v (y ∷ ys) h k e = let c = tag_parts-cut w [] v (y ∷ ys) h.0 k.0 e in absurd (cc)
tag_parts-same w (x ∷ xs) v [] h k e = let c = tag_parts-cut w (x ∷ xs) v [] h.0 k.0 e in absurd (cc)
tag_parts-same w (x ∷ xs) v (y ∷ ys) h k e =
    let c = tag_parts-cut w (x ∷ xs) v (y ∷ ys) h.0 k.0 e in
    let first : w ≡ v = written-same w v h.0 k.0 c.0 in
    let same : spaced (x ∷ xs) ≡ spaced (y ∷ ys) = cc in
    let rest = tag_parts-same x xs y ys h.1 k.1 same in
    (λ i. first i ∷ rest i)

-- a tag has at most one list of parts
pub one_list : (ws vs : List TagPart) (tag : List ℕ) → AreTagParts ws tag → AreTagParts vs tag → ws ≡ vs
one_list [] vs tag h k = absurd (h.some refl)
one_list (w ∷ ws) [] tag h k = absurd (k.some refl)
one_list (w ∷ ws) (v ∷ vs) tag h k = tag_parts-same w ws v vs h.tag_parts k.tag_parts (h.spelled ∙ sym k.spelled)

-- ---- cutting a tag into parts

-- parts with a space behind each
abbrev pub led : List TagPart → List ℕ
led [] = []
led (w ∷ ws) = written w ++ 32 ∷ led ws

pub spaced-last : (ws : List TagPart) (w : TagPart) → spaced (ws ++ w ∷ []) ≡ led ws ++ written w
spaced-last [] w = refl
spaced-last (v ∷ []) w = sym (append_assoc (written v) (32 ∷ []) (written w))
spaced-last (v ∷ u ∷ us) w = ap (λ r. written v ++ 32 ∷ r) (spaced-last (u ∷ us) w) ∙ sym (append_assoc (written v) (32 ∷ led (u ∷ us)) (written w))

pub led-more : (ws : List TagPart) (w : TagPart) (r : List ℕ) → led (ws ++ w ∷ []) ++ r ≡ led ws ++ (written w ++ 32 ∷ r)
led-more [] w r = append_assoc (written w) (32 ∷ []) r
led-more (v ∷ vs) w r =
    append_assoc (written v) (32 ∷ led (vs ++ w ∷ [])) r
    ∙ ap (λ s. written v ++ 32 ∷ s) (led-more vs w r)
    ∙ sym (append_assoc (written v) (32 ∷ led vs) (written w ++ 32 ∷ r))

-- the parts of a tag go on as the tag does
pub go_on : (ws vs : List TagPart) (rest : List ℕ) → AllByRecursion IsTagPart ws → AreTagParts vs (led ws ++ rest) → (us : List TagPart) × AreTagParts us rest
go_on [] vs rest h k = (vs, k)
go_on (w ∷ ws) [] rest h k = absurd (k.some refl)
go_on (w ∷ ws) (v ∷ vs) rest h k = next vs k.tag_parts.1 c.1 (λ us a. go_on ws us rest h.1 a)
  where
    c : (written v ≡ written w) × (behind vs ≡ 32 ∷ (led ws ++ rest))
    c = cut (written v) (written w) (behind vs) (32 ∷ (led ws ++ rest)) (written-no_space v k.tag_parts.0) (written-no_space w h.0) (behind-ended vs) refl (sym (spaced-cons v vs) ∙ k.spelled ∙ append_assoc (written w) (32 ∷ led ws) rest)

    next : (us : List TagPart) → AllByRecursion IsTagPart us → behind us ≡ 32 ∷ (led ws ++ rest) → ((us : List TagPart) → AreTagParts us (led ws ++ rest) → (ts : List TagPart) × AreTagParts ts rest) → (ts : List TagPart) × AreTagParts ts rest
    next [] a e f = absurd (cc)
    next (u ∷ us) a e f = f (u ∷ us) (record { some = λ e. absurd (cc); tag_parts = a; spelled = cc })

-- what comes first in them is a part
pub first_tag_part : (us : List TagPart) (text r : List ℕ) → AreTagParts us (text ++ r) → NoSpace text → Ended r → (w : TagPart) × IsTagPart w × (written w ≡ text)
first_tag_part [] text r k p t = absurd (k.some refl)
first_tag_part (u ∷ us) text r k p t =
    (u, k.tag_parts.0, (cut (written u) text (behind us) r (written-no_space u k.tag_parts.0) p (behind-ended us) t (sym (spaced-cons u us) ∙ k.spelled)).0)

-- ---- the steps of the cutting

all_recursion : (P : ℕ → Type 0) (xs : List ℕ) → All P xs → AllByRecursion P xs
all_recursion P [] a = tt
all_recursion P (x ∷ xs) a = (All-head P x xs a, all_recursion P xs (All-tail P x xs a))

tag_parts-push : (ws : List TagPart) (w : TagPart) → AllByRecursion IsTagPart ws → IsTagPart w → AllByRecursion IsTagPart (ws ++ w ∷ [])
tag_parts-push [] w h k = (k, tt)
tag_parts-push (v ∷ vs) w h k = (h.0, tag_parts-push vs w h.1 k)

split_front : (rest text : List ℕ) (o : Option (Bor (List ℕ))) → MatchOption o (rest ≡ text) (λ others. rest ≡ text ++ 32 ∷ others.now) → (r : List ℕ) × Ended r × (rest ≡ text ++ r)
split_front rest text None e = ([], tt, e ∙ sym (append-nil text))
split_front rest text (Some others) e = (32 ∷ others.now, refl, e)

-- a tag has no parts where what stands between two spaces is no part
pub no_tag_parts : (ws : List TagPart) (rest tag text : List ℕ) (o : Option (Bor (List ℕ))) → AllByRecursion IsTagPart ws → led ws ++ rest ≡ tag
    → All (λ byte. byte ≢ 32) text → MatchOption o (rest ≡ text) (λ others. rest ≡ text ++ 32 ∷ others.now) → ((w : TagPart) → IsTagPart w → written w ≢ text) → (vs : List TagPart) → AreTagParts vs tag → ⊥
no_tag_parts ws rest tag text o h e a m n vs k =
    let r = split_front rest text o m in
    let next = go_on ws vs rest h (subst (AreTagParts vs) (sym e) k) in
    let first = first_tag_part next.0 text r.0 (subst (AreTagParts next.0) r.2 next.1) (all_recursion _ text a) r.1 in
    n first.0 first.1 first.2

-- the last part ends the tag
pub last_tag_part : (ws vs : List TagPart) (w : TagPart) (rest tag text : List ℕ) → AllByRecursion IsTagPart ws → led ws ++ rest ≡ tag → rest ≡ text → IsTagPart w → written w ≡ text → vs ≡ ws ++ w ∷ [] → AreTagParts vs tag
last_tag_part ws vs w rest tag text h e m k f g =
    let all : spaced (ws ++ w ∷ []) ≡ tag = spaced-last ws w ∙ ap (λ t. led ws ++ t) (f ∙ sym m) ∙ e in
    subst (λ us. AreTagParts us tag) (sym g) (record { some = nonempty ws; tag_parts = tag_parts-push ws w h k; spelled = all })
  where
    nonempty : (us : List TagPart) → us ++ w ∷ [] ≢ []
    nonempty [] e = absurd (cc)
    nonempty (u ∷ us) e = absurd (cc)

-- a part and a space are taken off
pub next_tag_part : (ws vs : List TagPart) (w : TagPart) (rest tag text others : List ℕ) → AllByRecursion IsTagPart ws → led ws ++ rest ≡ tag → rest ≡ text ++ 32 ∷ others → IsTagPart w → written w ≡ text → vs ≡ ws ++ w ∷ []
    → AllByRecursion IsTagPart vs × (led vs ++ others ≡ tag)
next_tag_part ws vs w rest tag text others h e m k f g =
    let all : led (ws ++ w ∷ []) ++ others ≡ tag = led-more ws w others ∙ ap (λ t. led ws ++ (t ++ 32 ∷ others)) f ∙ ap (λ r. led ws ++ r) (sym m) ∙ e in
    (subst (AllByRecursion IsTagPart) (sym g) (tag_parts-push ws w h k), subst (λ us. led us ++ others ≡ tag) (sym g) all)

pub some_tag_part : (o : Option TagPart) (w : TagPart) (text : List ℕ) → o ≡ Some w → IfSome o (λ tag_part. IsTagPart tag_part × (written tag_part ≡ text)) → IsTagPart w × (written w ≡ text)
some_tag_part o w text e h = subst (λ p. IfSome p (λ tag_part. IsTagPart tag_part × (written tag_part ≡ text))) e h

pub none_tag_part : (o : Option TagPart) (text : List ℕ) → o ≡ None → IfNone o ((tag_part : TagPart) → IsTagPart tag_part → written tag_part ≢ text) → (w : TagPart) → IsTagPart w → written w ≢ text
none_tag_part o text e h = subst (λ p. IfNone p ((tag_part : TagPart) → IsTagPart tag_part → written tag_part ≢ text)) e h

pub ends_there : (o : Option (Bor (List ℕ))) (rest text : List ℕ) → o ≡ None → MatchOption o (rest ≡ text) (λ others. rest ≡ text ++ 32 ∷ others.now) → rest ≡ text
ends_there o rest text e h = subst (λ p. MatchOption p (rest ≡ text) (λ others. rest ≡ text ++ 32 ∷ others.now)) e h

pub goes_there : (o : Option (Bor (List ℕ))) (others : Bor (List ℕ)) (rest text : List ℕ) → o ≡ Some others → MatchOption o (rest ≡ text) (λ others. rest ≡ text ++ 32 ∷ others.now) → rest ≡ text ++ 32 ∷ others.now
goes_there o others rest text e h = subst (λ p. MatchOption p (rest ≡ text) (λ others. rest ≡ text ++ 32 ∷ others.now)) e h

-- ---- the table of signs

-- a sign of notations that is written otherwise
abbrev pub Differs : List ℕ → Mark → Type 0
Differs text sign = role_of sign ≢ Other → spelling sign ≢ text

no_sign_at : (text : List ℕ) → All (Differs text) ALL → (sign : Mark) → Differs text sign
no_sign_at text a Turnstile = a 5 Turnstile (omega arith)
no_sign_at text a ReverseTurnstile = a 6 Turnstile (omega arith)
no_sign_at text a SquigglyArrow = a 7 Turnstile (omega arith)
no_sign_at text a SquigglyArrowStar = a 0 Turnstile (omega arith)
no_sign_at text a Colon = a 26 Turnstile (omega arith)
no_sign_at text a Subtype = a 8 Turnstile (omega arith)
no_sign_at text a Supertype = a 9 Turnstile (omega arith)
no_sign_at text a Approximately = a 10 Turnstile (omega arith)
no_sign_at text a Define = a 11 Turnstile (omega arith)
no_sign_at text a Semicolon = a 27 Turnstile (omega arith)
no_sign_at text a Arrow = a 12 Turnstile (omega arith)
no_sign_at text a DotDot = a 13 Turnstile (omega arith)
no_sign_at text a TickParen = a 23 Turnstile (omega arith)
no_sign_at text a TickBracket = a 24 Turnstile (omega arith)
no_sign_at text a TickBrace = a 25 Turnstile (omega arith)
no_sign_at text a CloseParen = a 42 Turnstile (omega arith)
no_sign_at text a CloseBracket = a 44 Turnstile (omega arith)
no_sign_at text a CloseBrace = a 46 Turnstile (omega arith)
no_sign_at text a _ = λ h. absurd (h refl)

pub no_sign : (o : Option Mark) (text : List ℕ) → IfNone o (All (Differs text) ALL) → IfNone o ((sign : Mark) → Differs text sign)
no_sign None text a = no_sign_at text a
no_sign (Some sign) text a = tt
