-- Lists from a position on.
use Rattle.std.proofs.Common.{◌≡◌, ℕ, suc, ◌+◌, ◌<◌, sym, ap, List, ◌∷◌, length, drop, get_or, drop-cons, add-one}

-- a list from position i on begins with its item there
pub from : {A : Type 0} (xs : List A) (i : ℕ) (x : A) → i < length xs → x ≡ get_or xs i x → drop i xs ≡ x ∷ drop (i + 1) xs
from xs i x h is = rw (add-one, drop-cons xs i x h) (ap (λ z. z ∷ drop (suc i) xs) (sym is))
