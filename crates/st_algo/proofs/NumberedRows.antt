-- What is made of each member of a list, with its number or without.
use Rattle.std.proofs.Common.{◌≡◌, sym, ◌∙◌, ap, ℕ, ◌+◌, ◌<◌, List, [], ◌∷◌, ◌++◌, append_assoc, length, get_or, drop, map}
use Rattle.std.specs.Borrow.{Bor}
use Rattle.std.specs.List.{enumerate_from}
use Rattle.st_order.specs.Known.{all_now}
use Rattle.st_semantics.proofs.HoleSums.{drop_there}

-- one more is made, of a member with its number
pub numbered_next : {A B : Type 0} (f : ℕ × A → B) (xs : List (Bor A)) (i : ℕ) (x : Bor A) (y : B) (row new whole : List B) → i < length xs → x ≡ get_or xs i x → y ≡ f (i, x.now)
    → row ++ map f (enumerate_from i (all_now (drop i xs))) ≡ whole → new ≡ row ++ y ∷ [] → new ++ map f (enumerate_from (i + 1) (all_now (drop (i + 1) xs))) ≡ whole
numbered_next f xs i x y row new whole h e y_is inv n =
    let more = map f (enumerate_from (i + 1) (all_now (drop (i + 1) xs))) in
    ap (λ z. z ++ more) (n ∙ ap (λ z. row ++ z ∷ []) y_is) ∙ append_assoc row (f (i, x.now) ∷ []) more
    ∙ ap (λ z. row ++ map f (enumerate_from i (all_now z))) (sym (drop_there xs i x h e)) ∙ inv

-- one more is made, of a member
pub mapped_next : {A B : Type 0} (f : A → B) (xs : List (Bor A)) (i : ℕ) (x : Bor A) (y : B) (row new whole : List B) → i < length xs → x ≡ get_or xs i x → y ≡ f x.now
    → row ++ map f (all_now (drop i xs)) ≡ whole → new ≡ row ++ y ∷ [] → new ++ map f (all_now (drop (i + 1) xs)) ≡ whole
mapped_next f xs i x y row new whole h e y_is inv n =
    let more = map f (all_now (drop (i + 1) xs)) in
    ap (λ z. z ++ more) (n ∙ ap (λ z. row ++ z ∷ []) y_is) ∙ append_assoc row (f x.now ∷ []) more
    ∙ ap (λ z. row ++ map f (all_now z)) (sym (drop_there xs i x h e)) ∙ inv
