-- Names in order: one more comes in.
use Rattle.std.proofs.Common.{◌≡◌, ℕ, ◌+◌, ◌<◌, ◌≤◌, refl, sym, ◌∙◌, ap, subst, List, [], ◌∷◌, ◌++◌, length, take, drop, get_or, inl, inr, Bool, true, false, ◌||◌, Some, None, bytes_eq, arith}
use Rattle.std.specs.Ordering.{is_lt}
use Rattle.std.specs.declared.cmp.Ordering.TheVariants as order
use Rattle.std.proofs.lemmas.List.{take-append-drop, take_more, take_all, drop_more, drop_all}
use Rattle.std.proofs.lemmas.List.Folds.{list_any-append}
use Rattle.st_il.specs.Order.{text_cmp}
use Rattle.st_il.specs.Names.{Name, has_name}
use Rattle.st_semantics.specs.inner.Sorted.{AreSorted}
use Rattle.st_semantics.proofs.Names.{bytes-same, bytes-path, or-left, or-right, or-cases, within-cases, within-left, within-right}
use Rattle.st_semantics.proofs.InOrder.{IsBefore, before-trans, before-greater, names_equal}
use Rattle.st_match.specs.inner.Names.{IsInserted, StandsAt, AreOrdered}

-- ---- one name and another

only_name : (y x : Name) → has_name (x ∷ []) y ≡ true → y ≡ x
only_name y x h = elim (or-cases (bytes_eq y x) false h) [ inl k ↦ bytes-path y x k | inr bad ↦ cc ]

-- ---- names of several lists

swapped : (a e b : Bool) → (a || (e || b)) ≡ (e || (a || b))
swapped true true b = refl
swapped true false b = refl
swapped false e b = refl

turned : (a e : Bool) → (a || (e || false)) ≡ (e || a)
turned true true = refl
turned true false = refl
turned false true = refl
turned false false = refl

has-between : (xs ys : List Name) (x y : Name) → has_name (xs ++ x ∷ ys) y ≡ (bytes_eq y x || has_name (xs ++ ys) y)
has-between xs ys x y =
    list_any-append (bytes_eq y) xs (x ∷ ys)
    ∙ (swapped (has_name xs y) (bytes_eq y x) (has_name ys y) ∙ ap (λ z. bytes_eq y x || z) (sym (list_any-append (bytes_eq y) xs ys)))

has-behind : (xs : List Name) (x y : Name) → has_name (xs ++ x ∷ []) y ≡ (bytes_eq y x || has_name xs y)
has-behind xs x y = list_any-append (bytes_eq y) xs (x ∷ []) ∙ turned (has_name xs y) (bytes_eq y x)

sorted-right : (xs ys : List Name) → AreSorted (xs ++ ys) → AreSorted ys
sorted-right [] ys s = s
sorted-right (x ∷ xs) ys s = sorted-right xs ys s.1

-- ---- one more name

-- each of these names is before it
abbrev pub AreBefore : List Name → Name → Type 0
AreBefore xs x = (y : Name) → has_name xs y ≡ true → IsBefore y x

sorted-between : (xs ys : List Name) (x : Name) → AreSorted (xs ++ ys) → AreBefore xs x → ((y : Name) → has_name ys y ≡ true → IsBefore x y) → AreSorted (xs ++ x ∷ ys)
sorted-between [] ys x s below above = (above, s)
sorted-between (z ∷ xs) ys x s below above = (
  λ y h. elim (within-cases xs (x ∷ ys) y h) [
    | inl k ↦ s.0 y (within-left xs ys y k)
    | inr k ↦ elim (or-cases (bytes_eq y x) (has_name ys y) k) [
      | inl e ↦ subst (IsBefore z) (sym (bytes-path y x e)) (below z (or-left (bytes_eq z z) (has_name xs z) (bytes-same z)))
      | inr l ↦ s.0 y (within-right xs ys y l)
    ]
  ],
  sorted-between xs ys x s.1 (λ y h. below y (or-right (bytes_eq y z) (has_name xs y) h)) above,
)

inserted : (xs ys names : List Name) (x : Name) → xs ++ ys ≡ names → AreBefore xs x → (AreSorted ys → (y : Name) → has_name ys y ≡ true → IsBefore x y) → IsInserted x names (xs ++ x ∷ ys)
inserted xs ys names x is below above = record {
  sorted = λ s. let t : AreSorted (xs ++ ys) = subst AreSorted (sym is) s in sorted-between xs ys x t below (above (sorted-right xs ys t));
  among = λ y. has-between xs ys x y ∙ ap (λ z. bytes_eq y x || has_name z y) is;
}

-- at the first name that it is before
pub stands-before : (x : Name) (names : List Name) (i : ℕ) (other : Name) → i < length names → other ≡ get_or names i other → AreBefore (take i names) x → text_cmp x other ≡ order.Less → StandsAt x names (Some i)
stands-before x names i other h is below less = (omega (arith, h), inserted (take i names) (drop i names) names x (take-append-drop i names) below above)
  where
    front : drop i names ≡ other ∷ drop (i + 1) names
    front = drop_more names i other h ∙ ap (λ z. z ∷ drop (i + 1) names) (sym is)

    here : IsBefore x other
    here = ap is_lt less

    later : AreSorted (other ∷ drop (i + 1) names) → (y : Name) → has_name (other ∷ drop (i + 1) names) y ≡ true → IsBefore x y
    later s y k = elim (or-cases (bytes_eq y other) (has_name (drop (i + 1) names) y) k) [
      | inl e ↦ subst (IsBefore x) (sym (bytes-path y other e)) here
      | inr l ↦ before-trans x other y here (s.0 y l)
    ]

    above : AreSorted (drop i names) → (y : Name) → has_name (drop i names) y ≡ true → IsBefore x y
    above s y k = later (subst AreSorted front s) y (subst (λ z. has_name z y ≡ true) front k)

-- where it is there
pub stands-there : (x : Name) (names : List Name) (i : ℕ) (other : Name) → i < length names → other ≡ get_or names i other → text_cmp x other ≡ order.Equal → StandsAt x names None
stands-there x names i other h is equal = record { sorted = λ s. s; among = λ y. at y (bytes_eq y x) refl }
  where
    there : has_name names x ≡ true
    there =
        let same : x ≡ other = names_equal x other equal in
        let found : has_name (drop i names) other ≡ true = subst (λ z. has_name z other ≡ true) (sym (drop_more names i other h ∙ ap (λ z. z ∷ drop (i + 1) names) (sym is)))
        (or-left (bytes_eq other other) (has_name (drop (i + 1) names) other) (bytes-same other)) in
        subst (λ z. has_name names z ≡ true) (sym same) (subst (λ z. has_name z other ≡ true) (take-append-drop i names) (within-right (take i names) (drop i names) other found))

    at : (y : Name) (b : Bool) → bytes_eq y x ≡ b → has_name names y ≡ (bytes_eq y x || has_name names y)
    at y true k = (ap (has_name names) (bytes-path y x k) ∙ there) ∙ sym (or-left (bytes_eq y x) (has_name names y) k)
    at y false k = ap (λ z. z || has_name names y) (sym k)

-- behind all names
pub stands-last : (x : Name) (names : List Name) (i : ℕ) → length names ≤ i → AreBefore (take i names) x → StandsAt x names (Some (length names))
stands-last x names i h below = (
  omega arith,
  inserted (take (length names) names) (drop (length names) names) names x (take-append-drop (length names) names)
      (subst (λ z. AreBefore z x) (take_all i names h ∙ sym (take_all (length names) names (omega arith))) below)
      (λ s y k. let bad : has_name [] y ≡ true = subst (λ z. has_name z y ≡ true) (drop_all (length names) names (omega arith)) k in cc),
)

-- one more of the names that it is behind
pub before-more : (x : Name) (names : List Name) (i : ℕ) (other : Name) → i < length names → other ≡ get_or names i other → text_cmp x other ≡ order.Greater → AreBefore (take i names) x → AreBefore (take (i + 1) names) x
before-more x names i other h is greater below y k =
    elim (within-cases (take i names) (other ∷ []) y (subst (λ z. has_name z y ≡ true) (take_more names i other h ∙ ap (λ z. take i names ++ z ∷ []) (sym is)) k)) [
      | inl l ↦ below y l
      | inr l ↦ subst (λ z. IsBefore z x) (sym (only_name y other l)) (before-greater x other greater)
    ]

-- ---- all names

pub ordered-begin : (names all : List Name) → all ≡ [] → AreOrdered (take 0 names) all
ordered-begin names all is = subst (AreOrdered (take 0 names)) (sym is) (record { sorted = tt; among = λ x. refl })

pub ordered-more : (names : List Name) (i : ℕ) (name : Name) (all more : List Name) → i < length names → name ≡ get_or names i name → AreOrdered (take i names) all → IsInserted name all more → AreOrdered (take (i + 1) names) more
ordered-more names i name all more h is o n = record {
  sorted = n.sorted o.sorted;
  among = λ y. n.among y ∙ (ap (λ z. bytes_eq y name || z) (o.among y) ∙ (sym (has-behind (take i names) name y)
      ∙ ap (λ z. has_name z y) (sym (take_more names i name h ∙ ap (λ z. take i names ++ z ∷ []) (sym is)))));
}

pub ordered-end : (names all : List Name) (i : ℕ) → length names ≤ i → AreOrdered (take i names) all → AreOrdered names all
ordered-end names all i h o = subst (λ z. AreOrdered z all) (take_all i names h) o
