-- What is told of lists, member by member.
use Rattle.std.proofs.Common.{◌≡◌, sym, ◌∙◌, ap, ℕ, ◌+◌, ◌<◌, List, [], ◌∷◌, ◌++◌, append_assoc, length, get_or, drop}
use Rattle.st_semantics.proofs.HoleSums.{drop_there}

-- the next member is told behind those before it
pub following : {A B : Type 0} (f : List A → List B) → ((x : A) (xs : List A) → f (x ∷ xs) ≡ f (x ∷ []) ++ f xs) → (xs : List A) (i : ℕ) (x : A) (now new whole : List B)
    → i < length xs → x ≡ get_or xs i x → now ++ f (drop i xs) ≡ whole → new ≡ now ++ f (x ∷ []) → new ++ f (drop (i + 1) xs) ≡ whole
following f head xs i x now new whole h e inv n =
    ap (λ z. z ++ f (drop (i + 1) xs)) n ∙ append_assoc now (f (x ∷ [])) (f (drop (i + 1) xs)) ∙ ap (λ z. now ++ z) (sym (head x (drop (i + 1) xs)))
    ∙ ap (λ z. now ++ f z) (sym (drop_there xs i x h e)) ∙ inv
