-- Lists whose elements are asked one after another.
use Rattle.std.proofs.Common.{◌≡◌, ◌≢◌, ℕ, zero, suc, ◌+◌, ◌<◌, ◌≤◌, Bool, false, true≢false, List, [], ◌∷◌, ◌++◌, length, map, take, get_or, sym, ap, ap₂, subst, ◌∙◌, arith, ◌==◌}
use Rattle.std.specs.List.{All}
use Rattle.std.proofs.lemmas.List.{map-append, take_more, take_all}
use Rattle.std.proofs.lemmas.List.Elements.{All-push}

-- one that does not pass stands against all
pub not_all : {X : Type 0} (P : X → Type 0) (xs : List X) (i : ℕ) (x : X) → i < length xs → x ≡ get_or xs i x → (P x → ⊥) → All P xs → ⊥
not_all P xs i x within at fails all = fails (subst P (sym at) (all i x within))

-- one more that passes
pub all_more : {X : Type 0} (P : X → Type 0) (xs : List X) (i : ℕ) (x : X) → i < length xs → x ≡ get_or xs i x → P x → All P (take i xs) → All P (take (i + 1) xs)
all_more P xs i x within at passes all =
    subst (All P) (sym (take_more xs i x within)) (All-push P (take i xs) (get_or xs i x) all (subst P at passes))

-- all of them have passed
pub all_passed : {X : Type 0} (P : X → Type 0) (xs : List X) (i : ℕ) → length xs ≤ i → All P (take i xs) → All P xs
all_passed P xs i end all = subst (All P) (take_all i xs end) all

pub not_empty : {X : Type 0} (xs : List X) (answer : Bool) → answer ≡ (length xs == 0) → answer ≡ false → xs ≢ []
not_empty xs answer told other same = true≢false (sym (told ∙ ap (λ ys. length ys == 0) same) ∙ other)

-- the first and the rest of equal lists
pub first-of : {X : Type 0} {x y : X} {xs ys : List X} → x ∷ xs ≡ y ∷ ys → x ≡ y
first-of e = cc

pub rest-of : {X : Type 0} {x y : X} {xs ys : List X} → x ∷ xs ≡ y ∷ ys → xs ≡ ys
rest-of e = cc

-- one more that is made of another
pub made_more : {X Y : Type 0} (f : Y → X) (xs : List X) (i : ℕ) (x : X) (ys : List Y) (y : Y) → i < length xs → x ≡ get_or xs i x
    → take i xs ≡ map f ys → x ≡ f y → take (i + 1) xs ≡ map f (ys ++ y ∷ [])
made_more f xs i x ys y within at so is =
    take_more xs i x within ∙ ap₂ (λ us u. us ++ u ∷ []) so (sym at ∙ is) ∙ sym (map-append f ys (y ∷ []))

-- each of those that are made of others is made of one
pub made_at : {X Y : Type 0} (f : Y → X) (xs : List X) (ys : List Y) (i : ℕ) (d : X) → xs ≡ map f ys → i < length xs
    → (y : Y) × (get_or xs i d ≡ f y)
made_at f [] ys i d e within = absurd (omega (arith, within))
made_at f (x ∷ xs) [] i d e within = cc e
made_at f (x ∷ xs) (y ∷ ys) zero d e within = (y, first-of e)
made_at f (x ∷ xs) (y ∷ ys) (suc i) d e within = made_at f xs ys i d (rest-of e) (omega (arith, within))
