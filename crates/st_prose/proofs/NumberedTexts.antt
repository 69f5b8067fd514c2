-- The texts of members with their numbers, one behind another.
use Rattle.std.proofs.Common.{◌≡◌, sym, ◌∙◌, ap, ℕ, ◌+◌, ◌<◌, List, ◌∷◌, ◌++◌, append_assoc, length, get_or, drop, flat_map}
use Rattle.std.proofs.lemmas.List.{drop_more}
use Rattle.std.specs.Borrow.{Bor}
use Rattle.std.specs.List.{enumerate_from}
use Rattle.st_index.specs.Names.{all_now}

-- the text of one more is printed, of a member with its number
pub printed_next : {A : Type 0} (f : ℕ × A → List ℕ) (n : ℕ) (x : A) (xs : List A) (old new whole : List ℕ)
    → old ++ flat_map f (enumerate_from n (x ∷ xs)) ≡ whole → new ≡ old ++ f (n, x) → new ++ flat_map f (enumerate_from (n + 1) xs) ≡ whole
printed_next f n x xs old new whole inv e =
    let more = flat_map f (enumerate_from (n + 1) xs) in
    ap (λ z. z ++ more) e ∙ append_assoc old (f (n, x)) more ∙ inv

-- the same of a list that is gone through by its places, the first of which has the number k
pub numbered_next : {A : Type 0} (f : ℕ × A → List ℕ) (k : ℕ) (xs : List A) (i : ℕ) (x : A) (old new whole : List ℕ) → i < length xs → x ≡ get_or xs i x
    → old ++ flat_map f (enumerate_from (i + k) (drop i xs)) ≡ whole → new ≡ old ++ f (i + k, x) → new ++ flat_map f (enumerate_from (i + k + 1) (drop (i + 1) xs)) ≡ whole
numbered_next f k xs i x old new whole h e inv n =
    printed_next f (i + k) x (drop (i + 1) xs) old new whole
    (ap (λ z. old ++ flat_map f (enumerate_from (i + k) (z ∷ drop (i + 1) xs))) e
    ∙ ap (λ z. old ++ flat_map f (enumerate_from (i + k) z)) (sym (drop_more xs i x h)) ∙ inv)
    n

-- the same of references
pub referred_next : {A : Type 0} (f : ℕ × A → List ℕ) (xs : List (Bor A)) (i : ℕ) (x : Bor A) (old new whole : List ℕ) → i < length xs → x ≡ get_or xs i x
    → old ++ flat_map f (enumerate_from i (all_now (drop i xs))) ≡ whole → new ≡ old ++ f (i, x.now) → new ++ flat_map f (enumerate_from (i + 1) (all_now (drop (i + 1) xs))) ≡ whole
referred_next f xs i x old new whole h e inv n =
    printed_next f i x.now (all_now (drop (i + 1) xs)) old new whole
    (ap (λ (z : Bor _). old ++ flat_map f (enumerate_from i (z.now ∷ all_now (drop (i + 1) xs)))) e
    ∙ ap (λ z. old ++ flat_map f (enumerate_from i (all_now z))) (sym (drop_more xs i x h)) ∙ inv)
    n
