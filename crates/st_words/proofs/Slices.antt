-- Slices of words by their first one.
use Rattle.std.proofs.Common.{◌≡◌, ◌∙◌, refl, sym, ap, ◌≤◌, ◌<◌, ◌-◌, List, [], ◌∷◌, ℕ, ◌+◌, length, take, drop, drop-cons, drop_of_length-le, add-one, get_or, map, string_bytes, String, Global, arith}
use Rattle.std.proofs.lemmas.List.{take_rest}

-- a list is its first member and the slice behind it
pub first_and_rest : {A : Type 0} (items : List A) (first : A) → 1 ≤ length items → first ≡ get_or items 0 first
    → items ≡ first ∷ take (length items - 1) (drop 1 items)
first_and_rest [] first some is = absurd (omega (arith, some))
first_and_rest (item ∷ items) first some is = ap (λ i. i ∷ items) (sym is) ∙ ap (λ rest. first ∷ rest) (sym (take_rest (item ∷ items) 1))

-- so are the bytes of words
pub words_split : (words : List (String Global)) (first : String Global) (bytes : List ℕ) → 1 ≤ length words → first ≡ get_or words 0 first → bytes ≡ string_bytes first
    → map string_bytes words ≡ bytes ∷ map string_bytes (take (length words - 1) (drop 1 words))
words_split words first bytes some is same =
    ap (map string_bytes) (first_and_rest words first some is) ∙ ap (λ b. b ∷ map string_bytes (take (length words - 1) (drop 1 words))) (sym same)

pub no_words : (words : List (String Global)) → length words < 1 → map string_bytes words ≡ []
no_words [] none = refl
no_words (word ∷ words) none = absurd (omega (arith, none))

-- the words from one on
pub words_from : (words : List (String Global)) (i : ℕ) (word : String Global) (bytes : List ℕ) → i < length words → word ≡ get_or words i word → bytes ≡ string_bytes word
    → map string_bytes (drop i words) ≡ bytes ∷ map string_bytes (drop (i + 1) words)
words_from words i word bytes within is same =
    ap (map string_bytes) (drop-cons words i word within)
    ∙ ap (λ n. string_bytes (get_or words i word) ∷ map string_bytes (drop n words)) (sym (add-one i))
    ∙ ap (λ b. b ∷ map string_bytes (drop (i + 1) words)) (ap string_bytes (sym is) ∙ sym same)

pub no_words_from : (words : List (String Global)) (i : ℕ) → length words ≤ i → map string_bytes (drop i words) ≡ []
no_words_from words i past = ap (map string_bytes) (drop_of_length-le words past)
