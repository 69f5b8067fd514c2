-- Values that fit at holes, one after another.
use Rattle.std.proofs.Common.{arith, ◌≡◌, refl, sym, ap, subst, ℕ, zero, suc, ◌+◌, ◌<◌, ◌≤◌, List, [], ◌∷◌, ◌++◌, length, take, get_or}
use Rattle.st_il.specs.declared.value.Value.{Value}
use Rattle.st_search.specs.declared.holes.Hole.{Hole}
use Rattle.st_search.specs.declared.holes.Hole.TheVariants as hole
use Rattle.st_search.specs.inner.Holes.{AreFitting}
use Rattle.st_search.proofs.Sequences.{take_step, take_whole}

-- the values fit at the first holes
abbrev pub FitsSoFar : List Hole → List Value → ℕ → List Value → Type 0
FitsSoFar holes values i found = AreFitting (take i holes) (take i values) found

-- at one hole
abbrev pub FitsAt : Hole → Value → List Value → Type 0
FitsAt h v first = AreFitting (h ∷ []) (v ∷ []) first

fits_last : (holes : List Hole) (values : List Value) (h : Hole) (v : Value) (found first : List Value) → AreFitting holes values found → FitsAt h v first → AreFitting (holes ++ h ∷ []) (values ++ v ∷ []) (found ++ first)
fits_last [] [] h v found first none at = subst (FitsAt h v) (ap (λ z. z ++ first) (sym none)) at
fits_last [] (w ∷ ws) h v found first f at = absurd f
fits_last (hole.Pattern ∷ hs) [] h v found first f at = absurd f
fits_last (hole.Pattern ∷ hs) (w ∷ ws) h v found first f at = (f.0 ++ first, ap (λ z. z ++ first) f.1, fits_last hs ws h v f.0 first f.2 at)
fits_last (hole.Value x ∷ hs) [] h v found first f at = absurd f
fits_last (hole.Value x ∷ hs) (w ∷ ws) h v found first f at = (f.0, fits_last hs ws h v found first f.1 at)
fits_last (hole.Nothing ∷ hs) ws h v found first f at = absurd f

pub fits_step : (holes : List Hole) (values : List Value) (i : ℕ) (h : Hole) (v : Value) (found first longer : List Value) → i < length holes → h ≡ get_or holes i h → i < length values → v ≡ get_or values i v
    → FitsSoFar holes values i found → FitsAt h v first → longer ≡ found ++ first → FitsSoFar holes values (i + 1) longer
fits_step holes values i h v found first longer in_holes is in_values is' f at more =
    subst (AreFitting (take (i + 1) holes) (take (i + 1) values)) (sym more)
    (subst (λ z. AreFitting z (take (i + 1) values) (found ++ first)) (sym (take_step holes i h in_holes is))
    (subst (λ z. AreFitting (take i holes ++ h ∷ []) z (found ++ first)) (sym (take_step values i v in_values is')) (fits_last (take i holes) (take i values) h v found first f at)))

pub fits_all : (holes : List Hole) (values : List Value) (i : ℕ) (found : List Value) → length holes ≤ i → length holes ≡ length values → FitsSoFar holes values i found → AreFitting holes values found
fits_all holes values i found end long f =
    subst (λ z. AreFitting z values found) (take_whole holes i end) (subst (λ z. AreFitting (take i holes) z found) (take_whole values i (omega (arith, end, long))) f)

-- where values fit, each does
fits_tail : (h : Hole) (hs : List Hole) (v : Value) (vs found : List Value) → AreFitting (h ∷ hs) (v ∷ vs) found → (rest : List Value) × AreFitting hs vs rest
fits_tail hole.Pattern hs v vs found f = (f.0, f.2)
fits_tail (hole.Value x) hs v vs found f = (found, f.1)
fits_tail hole.Nothing hs v vs found f = absurd f

fits_head : (h : Hole) (hs : List Hole) (v : Value) (vs found : List Value) → AreFitting (h ∷ hs) (v ∷ vs) found → (first : List Value) × FitsAt h v first
fits_head hole.Pattern hs v vs found f = (v ∷ [], ([], refl, refl))
fits_head (hole.Value x) hs v vs found f = ([], (f.0, refl))
fits_head hole.Nothing hs v vs found f = absurd f

fits_none : (h : Hole) (hs : List Hole) (found : List Value) → AreFitting (h ∷ hs) [] found → ⊥
fits_none hole.Pattern hs found f = f
fits_none (hole.Value x) hs found f = f
fits_none hole.Nothing hs found f = f

pub fits_at : (holes : List Hole) (values : List Value) (i : ℕ) (h : Hole) (v : Value) (found : List Value) → i < length holes → h ≡ get_or holes i h → i < length values → v ≡ get_or values i v
    → AreFitting holes values found → (first : List Value) × FitsAt h v first
fits_at [] values i h v found in_holes is in_values is' f = absurd (omega (arith, in_holes))
fits_at (x ∷ xs) [] i h v found in_holes is in_values is' f = absurd (omega (arith, in_values))
fits_at (x ∷ xs) (w ∷ ws) zero h v found in_holes is in_values is' f =
    let at = fits_head x xs w ws found f in
    (at.0, subst (λ z. FitsAt z v at.0) (sym is) (subst (λ z. FitsAt x z at.0) (sym is') at.1))
fits_at (x ∷ xs) (w ∷ ws) (suc i) h v found in_holes is in_values is' f =
    let rest = fits_tail x xs w ws found f in
    fits_at xs ws i h v rest.0 (omega (arith, in_holes)) is (omega (arith, in_values)) is' rest.1

pub fits_long : (holes : List Hole) (values found : List Value) → AreFitting holes values found → length holes ≡ length values
fits_long [] [] found f = refl
fits_long [] (v ∷ vs) found f = absurd f
fits_long (h ∷ hs) [] found f = absurd (fits_none h hs found f)
fits_long (h ∷ hs) (v ∷ vs) found f = let rest = fits_tail h hs v vs found f in ap suc (fits_long hs vs rest.0 rest.1)
