-- What stands at a position of a list that is made of others, and ways along edges.
use Rattle.std.proofs.Common.{◌≡◌, ◌≢◌, ◌⊎◌, inl, inr, refl, ap, ◌∙◌, ℕ, zero, suc, ◌+◌, ◌<◌, List, [], ◌∷◌, ◌++◌, length, set, take, map, replicate, Some, slice_get, get_or, take-suc, add-one, arith}
use Rattle.st_graph.specs.Reaches.{Reaches, itself, through}
use Rattle.st_graph.specs.Graph.{Edge}

-- two numbers
abbrev pub pair : ℕ → ℕ → ℕ × ℕ
pair a b = (a, b)

pub same_position : (i j : ℕ) → (i ≡ j) ⊎ (i ≢ j)
same_position zero zero = inl refl
same_position zero (suc j) = inr (λ e. cc)
same_position (suc i) zero = inr (λ e. cc)
same_position (suc i) (suc j) = by (same_position i j)
  where
    by : (i ≡ j) ⊎ (i ≢ j) → (suc i ≡ suc j) ⊎ (suc i ≢ suc j)
    by (inl e) = inl (ap suc e)
    by (inr d) = inr (λ e. d (omega (arith, e)))

-- below the next number is what is below this one, and this one
pub below-next : (n m : ℕ) → n < suc m → (n < m) ⊎ (n ≡ m)
below-next zero zero l = inr refl
below-next zero (suc m) l = inl (omega arith)
below-next (suc n) zero l = absurd (omega (arith, l))
below-next (suc n) (suc m) l = deeper (below-next n m (omega (arith, l)))
  where
    deeper : (n < m) ⊎ (n ≡ m) → (suc n < suc m) ⊎ (suc n ≡ suc m)
    deeper (inl h) = inl (omega (arith, h))
    deeper (inr h) = inr (ap suc h)

module _ {A : Type 0} where
  pub get-none : (k : ℕ) (x : A) → slice_get [] k ≡ Some x → ⊥
  get-none k x e = cc

  pub get-same : (xs : List A) (k : ℕ) (x y : A) → slice_get xs k ≡ Some x → slice_get xs k ≡ Some y → x ≡ y
  get-same xs k x y e f = cc

  pub get-front : (xs ys : List A) (k : ℕ) (x : A) → slice_get xs k ≡ Some x → slice_get (xs ++ ys) k ≡ Some x
  get-front [] ys k x e = absurd (get-none k x e)
  get-front (z ∷ xs) ys zero x e = e
  get-front (z ∷ xs) ys (suc k) x e = get-front xs ys k x e

  pub get-behind : (xs ys : List A) (k : ℕ) → slice_get (xs ++ ys) (length xs + k) ≡ slice_get ys k
  get-behind [] ys k = let e : zero + k ≡ k = omega arith in ap (slice_get ys) e
  get-behind (z ∷ xs) ys k =
      let e : length (z ∷ xs) + k ≡ suc (length xs + k) = omega arith in ap (slice_get (z ∷ xs ++ ys)) e ∙ get-behind xs ys k

  pub get-last : (xs : List A) (y : A) → slice_get (xs ++ y ∷ []) (length xs) ≡ Some y
  get-last [] y = refl
  get-last (x ∷ xs) y = get-last xs y

  -- an item of two lists is one of the first or of the second
  pub get-append : (xs ys : List A) (k : ℕ) (x : A) → slice_get (xs ++ ys) k ≡ Some x
      → (slice_get xs k ≡ Some x) ⊎ ((m : ℕ) × ((k ≡ length xs + m) × (slice_get ys m ≡ Some x)))
  get-append [] ys k x e = inr (k, (omega arith, e))
  get-append (z ∷ xs) ys zero x e = inl e
  get-append (z ∷ xs) ys (suc k) x e = by (get-append xs ys k x e)
    where
      by : (slice_get xs k ≡ Some x) ⊎ ((m : ℕ) × ((k ≡ length xs + m) × (slice_get ys m ≡ Some x)))
          → (slice_get xs k ≡ Some x) ⊎ ((m : ℕ) × ((suc k ≡ length (z ∷ xs) + m) × (slice_get ys m ≡ Some x)))
      by (inl h) = inl h
      by (inr (m, (h, g))) = inr (m, (omega (arith, h), g))

  -- an item of a list with one more is an item of the list, or that one
  pub get-push : (xs : List A) (y : A) (k : ℕ) (x : A) → slice_get (xs ++ y ∷ []) k ≡ Some x
      → (slice_get xs k ≡ Some x) ⊎ ((k ≡ length xs) × (y ≡ x))
  get-push [] y zero x e = inr (refl, cc)
  get-push [] y (suc k) x e = absurd (get-none k x e)
  get-push (z ∷ xs) y zero x e = inl e
  get-push (z ∷ xs) y (suc k) x e = by (get-push xs y k x e)
    where
      by : (slice_get xs k ≡ Some x) ⊎ ((k ≡ length xs) × (y ≡ x)) → (slice_get xs k ≡ Some x) ⊎ ((suc k ≡ suc (length xs)) × (y ≡ x))
      by (inl h) = inl h
      by (inr (h, g)) = inr (ap suc h, g)

  pub get-taken : (xs : List A) (n k : ℕ) (x : A) → slice_get (take n xs) k ≡ Some x → (k < n) × (slice_get xs k ≡ Some x)
  get-taken xs zero k x e = absurd (get-none k x e)
  get-taken [] (suc n) k x e = absurd (get-none k x e)
  get-taken (y ∷ xs) (suc n) zero x e = (omega arith, e)
  get-taken (y ∷ xs) (suc n) (suc k) x e = let r = get-taken xs n k x e in let h = r.0 in (omega (arith, h), r.1)

  pub get-within : (xs : List A) (k : ℕ) (x : A) → slice_get xs k ≡ Some x → k < length xs
  get-within [] k x e = absurd (get-none k x e)
  get-within (y ∷ xs) zero x e = omega arith
  get-within (y ∷ xs) (suc k) x e = let h = get-within xs k x e in omega (arith, h)

  pub get-at : (xs : List A) (k : ℕ) → k < length xs → (x : A) × (slice_get xs k ≡ Some x)
  get-at [] k h = absurd (omega arith)
  get-at (x ∷ xs) zero h = (x, refl)
  get-at (x ∷ xs) (suc k) h = get-at xs k (omega arith)

  pub get-before : (xs : List A) (k : ℕ) (x : A) → slice_get xs (suc k) ≡ Some x → (y : A) × (slice_get xs k ≡ Some y)
  get-before xs k x e = let h = get-within xs (suc k) x e in get-at xs k (omega (arith, h))

  pub set-other : (xs : List A) (i j : ℕ) (x : A) → j ≢ i → slice_get (set xs i x) j ≡ slice_get xs j
  set-other [] i j x d = refl
  set-other (y ∷ xs) zero zero x d = absurd (d refl)
  set-other (y ∷ xs) zero (suc j) x d = refl
  set-other (y ∷ xs) (suc i) zero x d = refl
  set-other (y ∷ xs) (suc i) (suc j) x d = set-other xs i j x (λ e. d (ap suc e))

  pub set-here : (xs : List A) (i : ℕ) (x y : A) → slice_get xs i ≡ Some y → slice_get (set xs i x) i ≡ Some x
  set-here [] i x y e = absurd (get-none i y e)
  set-here (z ∷ xs) zero x y e = refl
  set-here (z ∷ xs) (suc i) x y e = set-here xs i x y e

  pub set-same : (xs : List A) (i : ℕ) (x y : A) → slice_get (set xs i x) i ≡ Some y → x ≡ y
  set-same [] i x y e = absurd (get-none i y e)
  set-same (z ∷ xs) zero x y e = cc
  set-same (z ∷ xs) (suc i) x y e = set-same xs i x y e

  pub replicate-get : (n : ℕ) (x : A) (k : ℕ) (y : A) → slice_get (replicate n x) k ≡ Some y → x ≡ y
  replicate-get zero x k y e = absurd (get-none k y e)
  replicate-get (suc n) x zero y e = cc
  replicate-get (suc n) x (suc k) y e = replicate-get n x k y e

  -- one more of the front
  pub take-more : (xs : List A) (k : ℕ) (d : A) → k < length xs → take (k + 1) xs ≡ take k xs ++ get_or xs k d ∷ []
  take-more xs k d less = ap (λ (n : ℕ). take n xs) (add-one k) ∙ take-suc xs k d less

  pub reaches-trans : {Cites : A → A → Type 0} {x y z : A} → Reaches Cites x y → Reaches Cites y z → Reaches Cites x z
  reaches-trans itself h = h
  reaches-trans (through y c more) h = through y c (reaches-trans more h)

pub map-at : {A B : Type 0} (f : A → B) (xs : List A) (k : ℕ) (x : A) → slice_get xs k ≡ Some x → slice_get (map f xs) k ≡ Some (f x)
map-at f [] k x e = absurd (get-none k x e)
map-at f (y ∷ xs) zero x e = let same : y ≡ x = cc in ap (λ z. Some (f z)) same
map-at f (y ∷ xs) (suc k) x e = map-at f xs k x e

pub map-get : {A B : Type 0} (f : A → B) (xs : List A) (k : ℕ) (y : B) → slice_get (map f xs) k ≡ Some y → (x : A) × ((slice_get xs k ≡ Some x) × (f x ≡ y))
map-get f [] k y e = absurd (get-none k y e)
map-get f (x ∷ xs) zero y e = (x, (refl, cc))
map-get f (x ∷ xs) (suc k) y e = map-get f xs k y e

pub edge-reaches : (graph : List (List ℕ)) (x y : ℕ) → Edge graph x y → Reaches (Edge graph) x y
edge-reaches graph x y e = through y e itself
