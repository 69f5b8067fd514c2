-- Names in byte order, each once: two lists of them that have the same names are one.
use Rattle.std.proofs.Common.{◌≡◌, ℕ, zero, suc, ◌<◌, refl, sym, ◌∙◌, ap, ap₂, subst, List, [], ◌∷◌, length, ◌⊎◌, inl, inr, Bool, true, false, ◌||◌, bytes_eq, arith}
use Rattle.std.specs.Prelude.{AllPairs}
use Rattle.std.specs.Ordering.{is_lt, is_eq, ordering_reverse}
use Rattle.std.specs.declared.cmp.Ordering.{Ordering}
use Rattle.std.specs.declared.cmp.Ordering.TheVariants as order
use Rattle.std.proofs.lemmas.Cmp.{nat_list_cmp_total}
use Rattle.std.proofs.lemmas.Map.Text.{is_eq-slice_cmp}
use Rattle.std.proofs.lemmas.List.Elements.{All-nil, All-cons}
use Rattle.std.proofs.lemmas.List.Kept.{AllPairs-cons}
use Rattle.std.specs.List.{slice_index_or, All}
use Rattle.st_il.specs.Order.{text_cmp}
use Rattle.st_il.specs.Names.{Name, has_name}
use Rattle.st_semantics.specs.inner.Sorted.{AreSorted}
use Rattle.st_semantics.proofs.Names.{bytes-same, bytes-path, or-left, or-right, or-cases}

-- ---- one name and another

-- the first name is before the second
abbrev pub IsBefore : Name → Name → Type 0
IsBefore x y = is_lt (text_cmp x y) ≡ true

pub less_is : (o : Ordering) → is_lt o ≡ true → o ≡ order.Less
less_is order.Less h = refl
less_is order.Equal h = cc
less_is order.Greater h = cc

pub before-trans : (x y z : Name) → IsBefore x y → IsBefore y z → IsBefore x z
before-trans x y z h k = ap is_lt (nat_list_cmp_total.trans x y z (less_is (text_cmp x y) h) (less_is (text_cmp y z) k))

pub before-greater : (x y : Name) → text_cmp x y ≡ order.Greater → IsBefore y x
before-greater x y h = ap is_lt (nat_list_cmp_total.antisymm y x ∙ ap ordering_reverse h)

pub not_both : (x y : Name) → IsBefore x y → IsBefore y x → ⊥
not_both x y h k =
    let bad : order.Less ≡ order.Greater = sym (less_is (text_cmp x y) h) ∙ (nat_list_cmp_total.antisymm x y ∙ ap ordering_reverse (less_is (text_cmp y x) k)) in cc

pub names_equal : (x y : Name) → text_cmp x y ≡ order.Equal → x ≡ y
names_equal x y h = bytes-path x y (sym (is_eq-slice_cmp x y) ∙ ap is_eq h)

-- ---- lists in order

-- each name is before each later one
pub pairs_sorted : (xs : List Name) → AreSorted xs → AllPairs IsBefore xs
pairs_sorted [] s = λ i j d h k. absurd (omega (arith, h, k))
pairs_sorted (x ∷ xs) s = AllPairs-cons IsBefore x xs (all_from xs (λ y h. s.0 y h)) (pairs_sorted xs s.1)
  where
    all_from : (ys : List Name) → ((y : Name) → has_name ys y ≡ true → IsBefore x y) → All (IsBefore x) ys
    all_from [] h = All-nil (IsBefore x)
    all_from (y ∷ ys) h = All-cons (IsBefore x) y ys (h y (or-left (bytes_eq y y) (has_name ys y) (bytes-same y))) (all_from ys (λ z k. h z (or-right (bytes_eq z y) (has_name ys z) k)))

pub name_at : (xs : List Name) (x d : Name) → has_name xs x ≡ true → (j : ℕ) × (j < length xs) × (slice_index_or xs j d ≡ x)
name_at [] x d h = cc
name_at (y ∷ ys) x d h = at (or-cases (bytes_eq x y) (has_name ys x) h) (name_at ys x d)
  where
    at : (bytes_eq x y ≡ true) ⊎ (has_name ys x ≡ true) → (has_name ys x ≡ true → (j : ℕ) × (j < length ys) × (slice_index_or ys j d ≡ x))
        → (j : ℕ) × (j < suc (length ys)) × (slice_index_or (y ∷ ys) j d ≡ x)
    at (inl same) ih = (zero, omega arith, sym (bytes-path x y same))
    at (inr later) ih = let more = ih later in let less = more.1 in (suc more.0, omega (arith, less), more.2)

pub sorted_pairs : (xs : List Name) → AllPairs IsBefore xs → AreSorted xs
sorted_pairs [] h = tt
sorted_pairs (x ∷ xs) h = (
  λ y i.
      let w = name_at xs y x i in
      let less = w.1 in
      subst (IsBefore x) w.2 (h zero (suc w.0) x (omega arith) (omega (arith, less))),
  sorted_pairs xs (λ i j d less more. h (suc i) (suc j) d (omega (arith, less)) (omega (arith, more))),
)

-- a name in order stands once
pub nowhere : (z : Name) (zs : List Name) → AreSorted (z ∷ zs) → has_name zs z ≡ false
nowhere z zs r = at (has_name zs z) refl
  where
    at : (b : Bool) → has_name zs z ≡ b → b ≡ false
    at false k = refl
    at true k = absurd (not_both z z (r.0 z k) (r.0 z k))

-- Lists in order that have the same names are one.
pub sorted_equal : (xs ys : List Name) → AreSorted xs → AreSorted ys → ((x : Name) → has_name xs x ≡ has_name ys x) → xs ≡ ys
sorted_equal [] [] s t h = refl
sorted_equal [] (y ∷ ys) s t h = let bad : false ≡ true = h y ∙ or-left (bytes_eq y y) (has_name ys y) (bytes-same y) in cc
sorted_equal (x ∷ xs) [] s t h = let bad : true ≡ false = sym (or-left (bytes_eq x x) (has_name xs x) (bytes-same x)) ∙ h x in cc
sorted_equal (x ∷ xs) (y ∷ ys) s t h = ap₂ (λ a b. a ∷ b) first (sorted_equal xs ys s.1 t.1 rest)
  where
    here : (z : Name) (zs : List Name) → has_name (z ∷ zs) z ≡ true
    here z zs = or-left (bytes_eq z z) (has_name zs z) (bytes-same z)

    first : x ≡ y
    first = elim (or-cases (bytes_eq x y) (has_name ys x) (sym (h x) ∙ here x xs)) [
      | inl e ↦ bytes-path x y e
      | inr k ↦ elim (or-cases (bytes_eq y x) (has_name xs y) (h y ∙ here y ys)) [
        | inl e ↦ sym (bytes-path y x e)
        | inr l ↦ absurd (not_both x y (s.0 y l) (t.0 x k))
      ]
    ]

    rest : (z : Name) → has_name xs z ≡ has_name ys z
    rest z = at (bytes_eq z x) refl
      where
        at : (b : Bool) → bytes_eq z x ≡ b → has_name xs z ≡ has_name ys z
        at true k =
            let is : z ≡ x = bytes-path z x k in
            ap (has_name xs) is ∙ (nowhere x xs s ∙ (sym (nowhere y ys t) ∙ ap (has_name ys) (sym (is ∙ first))))
        at false k = ap (λ b. b || has_name xs z) (sym k) ∙ (h z ∙ ap (λ b. b || has_name ys z) (ap (bytes_eq z) (sym first) ∙ k))
