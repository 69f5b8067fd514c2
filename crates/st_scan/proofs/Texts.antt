-- Texts: how their bytes are escaped, read back, and where they end.
use Rattle.std.proofs.Common.{◌≡◌, ◌≢◌, ℕ, List, [], ◌∷◌, ◌++◌, Bool, true, false, refl, sym, ap, ◌∙◌, if◌then◌else◌, arith, not, ◌&&◌, ◌==◌, append_assoc}
use Rattle.std.proofs.lemmas.Bool.{eqb-true, eqb-false, ne_eqb, and_parts, false≢true}
use Rattle.std.proofs.lemmas.Bool.Decides.{nat_tests}
use Rattle.std.specs.List.{flat_map, list_all}
use Rattle.st_scan.specs.Bytes.{is_text_byte, is_line_feed}
use Rattle.st_num.specs.Texts.{escaped, quoted}
use Rattle.st_scan.specs.Faults.{closes_text, is_wrong}

-- ---- equations of lists with a head

abbrev pub head_or : List ℕ → ℕ
head_or [] = 0
head_or (b ∷ bs) = b

abbrev pub tail_of : List ℕ → List ℕ
tail_of [] = []
tail_of (b ∷ bs) = bs

pub heads : (a b : ℕ) (u v : List ℕ) → a ∷ u ≡ b ∷ v → a ≡ b
heads a b u v e = ap head_or e

pub tails : (a b : ℕ) (u v : List ℕ) → a ∷ u ≡ b ∷ v → u ≡ v
tails a b u v e = ap tail_of e

-- ---- the five ways in which a byte is escaped

pub data Escaping (c : ℕ) : Type 0 where
  quote : c ≡ 34 → escaped c ≡ 92 ∷ 34 ∷ [] → Escaping c
  backslash : c ≡ 92 → escaped c ≡ 92 ∷ 92 ∷ [] → Escaping c
  feed : c ≡ 10 → escaped c ≡ 92 ∷ 110 ∷ [] → Escaping c
  tab : c ≡ 9 → escaped c ≡ 92 ∷ 116 ∷ [] → Escaping c
  plain : c ≢ 34 → c ≢ 92 → c ≢ 10 → c ≢ 9 → escaped c ≡ c ∷ [] → Escaping c

pub escaping : (c : ℕ) → Escaping c
escaping c = first (c == 34) refl
  where
    last : (t : Bool) → (c == 9) ≡ t → c ≢ 34 → c ≢ 92 → c ≢ 10 → (c == 34) ≡ false → (c == 92) ≡ false → (c == 10) ≡ false → Escaping c
    last true e n m k p q r = tab (eqb-true c 9 e) (ap escaped (eqb-true c 9 e))
    last false e n m k p q r = plain n m k (eqb-false c 9 e)
        (ap (λ t. if t then 92 ∷ 34 ∷ [] else if c == 92 then 92 ∷ 92 ∷ [] else if c == 10 then 92 ∷ 110 ∷ [] else if c == 9 then 92 ∷ 116 ∷ [] else c ∷ []) p
        ∙ ap (λ t. if t then 92 ∷ 92 ∷ [] else if c == 10 then 92 ∷ 110 ∷ [] else if c == 9 then 92 ∷ 116 ∷ [] else c ∷ []) q
        ∙ ap (λ t. if t then 92 ∷ 110 ∷ [] else if c == 9 then 92 ∷ 116 ∷ [] else c ∷ []) r
        ∙ ap (λ t. if t then 92 ∷ 116 ∷ [] else c ∷ []) e)

    third : (t : Bool) → (c == 10) ≡ t → c ≢ 34 → c ≢ 92 → (c == 34) ≡ false → (c == 92) ≡ false → Escaping c
    third true e n m p q = feed (eqb-true c 10 e) (ap escaped (eqb-true c 10 e))
    third false e n m p q = last (c == 9) refl n m (eqb-false c 10 e) p q e

    second : (t : Bool) → (c == 92) ≡ t → c ≢ 34 → (c == 34) ≡ false → Escaping c
    second true e n p = backslash (eqb-true c 92 e) (ap escaped (eqb-true c 92 e))
    second false e n p = third (c == 10) refl n (eqb-false c 92 e) p e

    first : (t : Bool) → (c == 34) ≡ t → Escaping c
    first true e = quote (eqb-true c 34 e) (ap escaped (eqb-true c 34 e))
    first false e = second (c == 92) refl (eqb-false c 34 e) e

-- ---- one escaped byte read back

abbrev escape_read : List ℕ → ℕ × List ℕ
escape_read [] = (0, [])
escape_read (c ∷ bs) = (if c == 110 then 10 else if c == 116 then 9 else c, bs)

abbrev byte_read : List ℕ → ℕ × List ℕ
byte_read [] = (0, [])
byte_read (b ∷ bs) = if b == 92 then escape_read bs else (b, bs)

byte_back : (c : ℕ) (rest : List ℕ) → byte_read (escaped c ++ rest) ≡ (c, rest)
byte_back c rest = go (escaping c)
  where
    go : Escaping c → byte_read (escaped c ++ rest) ≡ (c, rest)
    go (quote e w) = ap (λ u. byte_read (u ++ rest)) w ∙ ap (λ d. (d, rest)) (sym e)
    go (backslash e w) = ap (λ u. byte_read (u ++ rest)) w ∙ ap (λ d. (d, rest)) (sym e)
    go (feed e w) = ap (λ u. byte_read (u ++ rest)) w ∙ ap (λ d. (d, rest)) (sym e)
    go (tab e w) = ap (λ u. byte_read (u ++ rest)) w ∙ ap (λ d. (d, rest)) (sym e)
    go (plain n m k l w) = ap (λ u. byte_read (u ++ rest)) w ∙ ap (λ t. if t then escape_read rest else (c, rest)) (ne_eqb c 92 m)

-- two escaped bytes at one place are one
pub escaped_front : (c d : ℕ) (x y : List ℕ) → escaped c ++ x ≡ escaped d ++ y → (c ≡ d) × (x ≡ y)
escaped_front c d x y e =
    let same : (c, x) ≡ (d, y) = sym (byte_back c x) ∙ ap byte_read e ∙ byte_back d y in
    (ap (λ p. p.0) same, ap (λ p. p.1) same)

-- no escaped byte begins with a quote
pub escaped_quote : (c : ℕ) (x y : List ℕ) → escaped c ++ x ≢ 34 ∷ y
escaped_quote c x y e = go (escaping c)
  where
    go : Escaping c → ⊥
    go (quote a w) = let h : 92 ≡ 34 = heads 92 34 _ _ (ap (λ u. u ++ x) (sym w) ∙ e) in absurd (omega (arith, h))
    go (backslash a w) = let h : 92 ≡ 34 = heads 92 34 _ _ (ap (λ u. u ++ x) (sym w) ∙ e) in absurd (omega (arith, h))
    go (feed a w) = let h : 92 ≡ 34 = heads 92 34 _ _ (ap (λ u. u ++ x) (sym w) ∙ e) in absurd (omega (arith, h))
    go (tab a w) = let h : 92 ≡ 34 = heads 92 34 _ _ (ap (λ u. u ++ x) (sym w) ∙ e) in absurd (omega (arith, h))
    go (plain n m k l w) = n (heads c 34 _ _ (ap (λ u. u ++ x) (sym w) ∙ e))

-- ---- whole texts

-- the part behind the first byte of a text, its brackets put right
abbrev regroup : (c : ℕ) (cs r : List ℕ) → flat_map escaped (c ∷ cs) ++ r ≡ escaped c ++ (flat_map escaped cs ++ r)
regroup c cs r = append_assoc (escaped c) (flat_map escaped cs) r

-- two texts at one place are one
pub texts_unique : (c d r s : List ℕ) → flat_map escaped c ++ 34 ∷ r ≡ flat_map escaped d ++ 34 ∷ s → (c ≡ d) × (r ≡ s)
texts_unique [] [] r s e = (refl, tails 34 34 r s e)
texts_unique [] (d ∷ ds) r s e = absurd (escaped_quote d _ r (sym (e ∙ regroup d ds (34 ∷ s))))
texts_unique (c ∷ cs) [] r s e = absurd (escaped_quote c _ s (sym (regroup c cs (34 ∷ r)) ∙ e))
texts_unique (c ∷ cs) (d ∷ ds) r s e =
    let both = escaped_front c d _ _ (sym (regroup c cs (34 ∷ r)) ∙ e ∙ regroup d ds (34 ∷ s)) in
    let more = texts_unique cs ds r s both.1 in
    (ap (λ b. b ∷ cs) both.0 ∙ ap (λ u. d ∷ u) more.0, more.1)

-- nothing wrong stands at the front of an escaped byte
wrong_escaped : (c : ℕ) (x : List ℕ) → is_text_byte c ≡ true → is_wrong (escaped c ++ x) ≡ false
wrong_escaped c x t = go (escaping c)
  where
    one : (z : List ℕ) → c ≢ 92 → c ≢ 10 → c ≢ 9 → is_wrong (c ∷ z) ≡ false
    one [] m k l = grind (arith, nat_tests)
    one (d ∷ z) m k l = grind (arith, nat_tests)

    go : Escaping c → is_wrong (escaped c ++ x) ≡ false
    go (quote e w) = ap (λ u. is_wrong (u ++ x)) w
    go (backslash e w) = ap (λ u. is_wrong (u ++ x)) w
    go (feed e w) = ap (λ u. is_wrong (u ++ x)) w
    go (tab e w) = ap (λ u. is_wrong (u ++ x)) w
    go (plain n m k l w) = ap (λ u. is_wrong (u ++ x)) w ∙ one x m k l

quote_right : (s : List ℕ) → is_wrong (34 ∷ s) ≡ false
quote_right [] = refl
quote_right (d ∷ s) = refl

-- a text and a wrong byte do not stand at one place
pub text_not_wrong : (c d wrong s : List ℕ) → is_wrong wrong ≡ true → list_all is_text_byte d ≡ true → flat_map escaped c ++ wrong ≢ flat_map escaped d ++ 34 ∷ s
text_not_wrong [] [] wrong s w t e = false≢true (sym (quote_right s) ∙ ap is_wrong (sym e) ∙ w)
text_not_wrong [] (d ∷ ds) wrong s w t e =
    let first : is_text_byte d ≡ true = (and_parts (is_text_byte d) (list_all is_text_byte ds) t).0 in
    false≢true (sym (wrong_escaped d _ first) ∙ ap is_wrong (sym (e ∙ regroup d ds (34 ∷ s))) ∙ w)
text_not_wrong (c ∷ cs) [] wrong s w t e = escaped_quote c _ s (sym (regroup c cs wrong) ∙ e)
text_not_wrong (c ∷ cs) (d ∷ ds) wrong s w t e =
    let both = escaped_front c d _ _ (sym (regroup c cs wrong) ∙ e ∙ regroup d ds (34 ∷ s)) in
    text_not_wrong cs ds wrong s w (and_parts (is_text_byte d) (list_all is_text_byte ds) t).1 both.1

-- ---- where a text is closed

closes_plain : (c : ℕ) (z : List ℕ) → c ≢ 34 → c ≢ 92 → c ≢ 10 → closes_text (c ∷ z) ≡ closes_text z
closes_plain c [] n m k = ne_eqb c 34 n
closes_plain c (d ∷ z) n m k =
    ap (λ t. if t then true else if is_line_feed c then false else if c == 92 then not (is_line_feed d) && closes_text z else closes_text (d ∷ z)) (ne_eqb c 34 n)
    ∙ ap (λ t. if t then false else if c == 92 then not (is_line_feed d) && closes_text z else closes_text (d ∷ z)) (ne_eqb c 10 k)
    ∙ ap (λ t. if t then not (is_line_feed d) && closes_text z else closes_text (d ∷ z)) (ne_eqb c 92 m)

-- an escaped byte neither closes a text nor keeps it from being closed
pub closes_escaped : (c : ℕ) (z : List ℕ) → closes_text (escaped c ++ z) ≡ closes_text z
closes_escaped c z = go (escaping c)
  where
    go : Escaping c → closes_text (escaped c ++ z) ≡ closes_text z
    go (quote e w) = ap (λ u. closes_text (u ++ z)) w
    go (backslash e w) = ap (λ u. closes_text (u ++ z)) w
    go (feed e w) = ap (λ u. closes_text (u ++ z)) w
    go (tab e w) = ap (λ u. closes_text (u ++ z)) w
    go (plain n m k l w) = ap (λ u. closes_text (u ++ z)) w ∙ closes_plain c z n m k

pub closes_behind : (c z : List ℕ) → closes_text (flat_map escaped c ++ z) ≡ closes_text z
closes_behind [] z = refl
closes_behind (c ∷ cs) z = ap closes_text (regroup c cs z) ∙ closes_escaped c (flat_map escaped cs ++ z) ∙ closes_behind cs z

closes_quote : (z : List ℕ) → closes_text (34 ∷ z) ≡ true
closes_quote [] = refl
closes_quote (d ∷ z) = refl

-- what stands behind the quote of a text is closed
pub text_closes : (c r : List ℕ) → closes_text (flat_map escaped c ++ 34 ∷ r) ≡ true
text_closes c r = closes_behind c (34 ∷ r) ∙ closes_quote r

-- a text in its quotes, and what stands behind it
pub quoted_behind : (c r : List ℕ) → quoted c ++ r ≡ 34 ∷ flat_map escaped c ++ 34 ∷ r
quoted_behind c r = ap (λ u. 34 ∷ u) (append_assoc (flat_map escaped c) (34 ∷ []) r)

-- two wrong bytes behind right ones are one
pub wrong_unique : (c d w z : List ℕ) → is_wrong w ≡ true → is_wrong z ≡ true → list_all is_text_byte c ≡ true → list_all is_text_byte d ≡ true → flat_map escaped c ++ w ≡ flat_map escaped d ++ z → w ≡ z
wrong_unique [] [] w z p q s t e = e
wrong_unique [] (d ∷ ds) w z p q s t e =
    let first : is_text_byte d ≡ true = (and_parts (is_text_byte d) (list_all is_text_byte ds) t).0 in
    absurd (false≢true (sym (wrong_escaped d _ first) ∙ ap is_wrong (sym (e ∙ regroup d ds z)) ∙ p))
wrong_unique (c ∷ cs) [] w z p q s t e =
    let first : is_text_byte c ≡ true = (and_parts (is_text_byte c) (list_all is_text_byte cs) s).0 in
    absurd (false≢true (sym (wrong_escaped c _ first) ∙ ap is_wrong (sym (regroup c cs w) ∙ e) ∙ q))
wrong_unique (c ∷ cs) (d ∷ ds) w z p q s t e =
    let both = escaped_front c d _ _ (sym (regroup c cs w) ∙ e ∙ regroup d ds z) in
    wrong_unique cs ds w z p q (and_parts (is_text_byte c) (list_all is_text_byte cs) s).1 (and_parts (is_text_byte d) (list_all is_text_byte ds) t).1 both.1
