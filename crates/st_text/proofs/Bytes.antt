-- Lemmas on the bytes of texts: words, escapes and what ends a text.
use Rattle.std.proofs.Common.{subst, ◌≡◌, ℕ, ◌<◌, List, [], ◌∷◌, ◌++◌, flat_map, Bool, true, false, ◌&&◌, ◌==◌, refl, sym, ap, ap₂, ◌∙◌, append_assoc, arith, ◌⊎◌, inl, inr, if◌then◌else◌}
use Rattle.std.specs.List.{list_all}
use Rattle.st_text.specs.Text.{escape_letter, escaped, is_word_byte, Ends}
use Rattle.st_text.specs.inner.Fronts.{Closes, Stops}

pub heads : {a b : ℕ} {u v : List ℕ} → a ∷ u ≡ b ∷ v → a ≡ b
heads e = cc

pub tails : {a b : ℕ} {u v : List ℕ} → a ∷ u ≡ b ∷ v → u ≡ v
tails e = cc

pub and_true : (a b : Bool) → (a && b) ≡ true → (a ≡ true) × (b ≡ true)
and_true true true e = (refl, refl)
and_true true false e = absurd (cc)
and_true false b e = absurd (cc)

-- ---- what ends a text

pub Ends-no_word : (b : ℕ) (w : List ℕ) → is_word_byte b ≡ true → Ends (b ∷ w) → ⊥
Ends-no_word b w h e = grind arith

pub Stops-from_Ends : (w : List ℕ) → Ends w → Stops w
Stops-from_Ends [] e = tt
Stops-from_Ends (b ∷ w) (inl e) = ap is_word_byte e
Stops-from_Ends (b ∷ w) (inr (inl e)) = ap is_word_byte e
Stops-from_Ends (b ∷ w) (inr (inr e)) = ap is_word_byte e

pub Ends-from_Closes : (w : List ℕ) → Closes w → Ends w
Ends-from_Closes [] e = tt
Ends-from_Closes (b ∷ w) (inl e) = inr (inl e)
Ends-from_Closes (b ∷ w) (inr e) = inr (inr e)

pub Closes-no_space : (w : List ℕ) → Closes (32 ∷ w) → ⊥
Closes-no_space w (inl e) = omega (arith, e)
Closes-no_space w (inr e) = omega (arith, e)

-- the bytes of a word at the front are the only ones
pub words_unique : (a b w x : List ℕ) → list_all is_word_byte a ≡ true → list_all is_word_byte b ≡ true → a ++ w ≡ b ++ x → Stops w → Stops x → (a ≡ b) × (w ≡ x)
words_unique [] [] w x p q e f g = (refl, e)
words_unique [] (c ∷ b) w x p q e f g = let yes : is_word_byte c ≡ true = (and_true _ _ q).0 in let never : is_word_byte c ≡ false = subst Stops e f in absurd (cc)
words_unique (c ∷ a) [] w x p q e f g = let yes : is_word_byte c ≡ true = (and_true _ _ p).0 in let never : is_word_byte c ≡ false = subst Stops (sym e) g in absurd (cc)
words_unique (c ∷ a) (d ∷ b) w x p q e f g =
    let r = words_unique a b w x (and_true _ _ p).1 (and_true _ _ q).1 (tails e) f g in
    (ap₂ ◌∷◌ (heads e) r.0, r.1)

-- ---- escapes

-- the two ways in which a byte is written
pub escaped_forms : (b : ℕ) → ((escaped b ≡ 92 ∷ escape_letter b ∷ []) × (0 < escape_letter b)) ⊎ ((escaped b ≡ b ∷ []) × (escape_letter b ≡ 0))
unfolding escaped
escaped_forms b = go (escape_letter b == 0) refl
  where
    go : (t : Bool) → (escape_letter b == 0) ≡ t
        → (((if t then b ∷ [] else 92 ∷ escape_letter b ∷ []) ≡ 92 ∷ escape_letter b ∷ []) × (0 < escape_letter b)) ⊎ (((if t then b ∷ [] else 92 ∷ escape_letter b ∷ []) ≡ b ∷ []) × (escape_letter b ≡ 0))
    go true e = inr (refl, grind arith)
    go false e = inl (refl, grind arith)

pub letter_unique : (a b : ℕ) → 0 < escape_letter a → escape_letter a ≡ escape_letter b → a ≡ b
letter_unique a b h e = grind arith

pub no_letter : (b : ℕ) → escape_letter b ≡ 0 → (b ≡ 34) ⊎ (b ≡ 92) → ⊥
no_letter b h e = grind arith

pub escaped-unique : (a b : ℕ) (w x : List ℕ) → escaped a ++ w ≡ escaped b ++ x → (a ≡ b) × (w ≡ x)
escaped-unique a b w x e = elim (escaped_forms a) [
  | inl p ↦ elim (escaped_forms b) [
    | inl q ↦ (let l : 92 ∷ escape_letter a ∷ w ≡ 92 ∷ escape_letter b ∷ x = sym (ap (λ u. u ++ w) p.0) ∙ e ∙ ap (λ u. u ++ x) q.0 in let same : escape_letter a ≡ escape_letter b = cc in (letter_unique a b p.1 same, cc))
    | inr q ↦ (let l : 92 ∷ escape_letter a ∷ w ≡ b ∷ x = sym (ap (λ u. u ++ w) p.0) ∙ e ∙ ap (λ u. u ++ x) q.0 in let same : b ≡ 92 = cc in absurd (no_letter b q.1 (inr same)))
  ]
  | inr p ↦ elim (escaped_forms b) [
    | inl q ↦ (let l : a ∷ w ≡ 92 ∷ escape_letter b ∷ x = sym (ap (λ u. u ++ w) p.0) ∙ e ∙ ap (λ u. u ++ x) q.0 in let same : a ≡ 92 = cc in absurd (no_letter a p.1 (inr same)))
    | inr q ↦ (let l : a ∷ w ≡ b ∷ x = sym (ap (λ u. u ++ w) p.0) ∙ e ∙ ap (λ u. u ++ x) q.0 in (cc, cc))
  ]
]

pub escaped-no_quote : (b : ℕ) (w x : List ℕ) → 34 ∷ w ≡ escaped b ++ x → ⊥
escaped-no_quote b w x e = elim (escaped_forms b) [
  | inl p ↦ (let l : 34 ∷ w ≡ 92 ∷ escape_letter b ∷ x = e ∙ ap (λ u. u ++ x) p.0 in absurd (cc))
  | inr p ↦ (let l : 34 ∷ w ≡ b ∷ x = e ∙ ap (λ u. u ++ x) p.0 in let same : b ≡ 34 = cc in no_letter b p.1 (inl same))
]

pub content_unique : (s r w x : List ℕ) → flat_map escaped s ++ (34 ∷ w) ≡ flat_map escaped r ++ (34 ∷ x) → (s ≡ r) × (w ≡ x)
content_unique [] [] w x e = (refl, cc)
content_unique [] (b ∷ r) w x e = absurd (escaped-no_quote b w (flat_map escaped r ++ 34 ∷ x) (e ∙ append_assoc (escaped b) (flat_map escaped r) (34 ∷ x)))
content_unique (a ∷ s) [] w x e = absurd (escaped-no_quote a x (flat_map escaped s ++ 34 ∷ w) (sym e ∙ append_assoc (escaped a) (flat_map escaped s) (34 ∷ w)))
content_unique (a ∷ s) (b ∷ r) w x e =
    let here = escaped-unique a b (flat_map escaped s ++ 34 ∷ w) (flat_map escaped r ++ 34 ∷ x) (sym (append_assoc (escaped a) (flat_map escaped s) (34 ∷ w)) ∙ e ∙ append_assoc (escaped b) (flat_map escaped r) (34 ∷ x)) in
    let rest = content_unique s r w x here.1 in
    (ap₂ ◌∷◌ here.0 rest.0, rest.1)
