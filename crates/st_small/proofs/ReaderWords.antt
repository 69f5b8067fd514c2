-- A word of letters at the front of a text is the longest one.
use Rattle.std.proofs.Common.{◌≡◌, ℕ, List, [], ◌∷◌, ◌++◌, take, drop, refl, sym, subst, ◌∙◌}
use Rattle.std.specs.List.{All}
use Rattle.std.proofs.lemmas.List.Elements.{All-nil, All-head, All-tail}
use Rattle.std.proofs.lemmas.List.{take-append-drop}
use Rattle.st_il.specs.Small.{IsWordOf}
use Rattle.st_small.specs.inner.SmallForm.{Stops}

-- two fronts of letters before no letter are the same
pub word_only : (P : ℕ → Type 0) (xs ys rs ss : List ℕ) → All P xs → All P ys → Stops P rs → Stops P ss → xs ++ rs ≡ ys ++ ss → (xs ≡ ys) × (rs ≡ ss)
word_only P [] [] rs ss ax ay r s e = (refl, e)
word_only P [] (y ∷ ys) [] ss ax ay r s e = cc
word_only P [] (y ∷ ys) (q ∷ rs) ss ax ay r s e =
    let same : q ≡ y = cc in absurd (r (subst P (sym same) (All-head P y ys ay)))
word_only P (x ∷ xs) [] rs [] ax ay r s e = cc
word_only P (x ∷ xs) [] rs (q ∷ ss) ax ay r s e =
    let same : x ≡ q = cc in absurd (s (subst P same (All-head P x xs ax)))
word_only P (x ∷ xs) (y ∷ ys) rs ss ax ay r s e =
    let tails : xs ++ rs ≡ ys ++ ss = cc in
    let rest = word_only P xs ys rs ss (All-tail P x xs ax) (All-tail P y ys ay) r s tails in
    let heads : x ≡ y = cc in
    let front : xs ≡ ys = rest.0 in
    let one : x ∷ xs ≡ y ∷ ys = cc in
    (one, rest.1)

-- no word stands where no letter does
pub word_none : (P : ℕ → Type 0) (xs word rest : List ℕ) → Stops P xs → IsWordOf P word → Stops P rest → xs ≡ word ++ rest → ⊥
word_none P xs word rest stops is_word after e =
    is_word.0 (sym ((word_only P [] word xs rest (All-nil P) is_word.1 stops after e).0))

-- the front of letters is the word, and what is left is the rest
pub word_split : (P : ℕ → Type 0) (xs : List ℕ) (n : ℕ) (front back word rest : List ℕ) → front ≡ take n xs → back ≡ drop n xs
    → All P (take n xs) → Stops P (drop n xs) → IsWordOf P word → Stops P rest → xs ≡ word ++ rest → (front ≡ word) × (back ≡ rest)
word_split P xs n front back word rest f b letters stops is_word after e =
    let same = word_only P (take n xs) word (drop n xs) rest letters is_word.1 stops after (take-append-drop n xs ∙ e) in
    (f ∙ same.0, b ∙ same.1)
