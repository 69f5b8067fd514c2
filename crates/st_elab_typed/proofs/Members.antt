-- The members of a list, and what holds of each of them.
use Rattle.std.proofs.Common.{◌≡◌, ◌⊎◌, inl, inr, refl, sym, ap, ◌∙◌, subst, ℕ, suc, List, [], ◌∷◌, ◌++◌, map, filter, Bool, true, false, ◌||◌, cond, arith}
use Rattle.std.specs.Prelude.{All, Contains, bytes_eq}
use Rattle.std.specs.List.{AllByRecursion, list_any}
use Rattle.std.proofs.lemmas.Bool.{true≢false}
use Rattle.std.proofs.lemmas.List.Elements.{All-from_recursion, recursion_from_All}
use Rattle.std.proofs.lemmas.Slice.Eq.{bytes_eq-Decides}

-- it is a member of the list
abbrev pub Has : {A : Type 0} → List A → A → Type 0
Has [] a = ⊥
Has (x ∷ xs) a = (x ≡ a) ⊎ Has xs a

module _ {A : Type 0} where
  pub Has-left : (xs ys : List A) (a : A) → Has xs a → Has (xs ++ ys) a
  Has-left [] ys a h = absurd h
  Has-left (x ∷ xs) ys a (inl e) = inl e
  Has-left (x ∷ xs) ys a (inr h) = inr (Has-left xs ys a h)

  pub Has-right : (xs ys : List A) (a : A) → Has ys a → Has (xs ++ ys) a
  Has-right [] ys a h = h
  Has-right (x ∷ xs) ys a h = inr (Has-right xs ys a h)

  pub Has-either : (xs ys : List A) (a : A) → Has (xs ++ ys) a → Has xs a ⊎ Has ys a
  Has-either [] ys a h = inr h
  Has-either (x ∷ xs) ys a (inl e) = inl (inl e)
  Has-either (x ∷ xs) ys a (inr h) = elim (Has-either xs ys a h) [ inl k ↦ inl (inr k) | inr k ↦ inr k ]

  pub Contains-from_Has : (xs : List A) (a : A) → Has xs a → Contains xs a
  Contains-from_Has [] a h = absurd h
  Contains-from_Has (x ∷ xs) a (inl e) = (0, omega arith, e)
  Contains-from_Has (x ∷ xs) a (inr h) = let c = Contains-from_Has xs a h in (suc c.0, omega (arith, c.1), c.2)

  pub each_recursive : (P : A → Type 0) (xs : List A) → ((a : A) → Has xs a → P a) → AllByRecursion P xs
  each_recursive P [] h = tt
  each_recursive P (x ∷ xs) h = (h x (inl refl), each_recursive P xs (λ a k. h a (inr k)))

  pub All-from_Has : (P : A → Type 0) (xs : List A) → ((a : A) → Has xs a → P a) → All P xs
  All-from_Has P xs h = All-from_recursion P xs (each_recursive P xs h)

  pub Has_recursive : (P : A → Type 0) (xs : List A) (a : A) → AllByRecursion P xs → Has xs a → P a
  Has_recursive P [] a h k = absurd k
  Has_recursive P (x ∷ xs) a h (inl e) = subst P e h.0
  Has_recursive P (x ∷ xs) a h (inr k) = Has_recursive P xs a h.1 k

  pub Has_All : (P : A → Type 0) (xs : List A) (a : A) → All P xs → Has xs a → P a
  Has_All P xs a h k = Has_recursive P xs a (recursion_from_All P xs h) k

  -- ---- filters

  cond_has : (b : Bool) (x : A) (xs : List A) (a : A) → Has xs a ⊎ ((x ≡ a) × (b ≡ true)) → Has (cond b (x ∷ xs) xs) a
  cond_has true x xs a (inl h) = inr h
  cond_has true x xs a (inr h) = inl h.0
  cond_has false x xs a (inl h) = h
  cond_has false x xs a (inr h) = absurd (true≢false (sym h.1))

  has_cond : (b : Bool) (x : A) (xs : List A) (a : A) → Has (cond b (x ∷ xs) xs) a → Has xs a ⊎ ((x ≡ a) × (b ≡ true))
  has_cond true x xs a (inl e) = inr (e, refl)
  has_cond true x xs a (inr h) = inl h
  has_cond false x xs a h = inl h

  pub Has-filter : (p : A → Bool) (xs : List A) (a : A) → Has xs a → p a ≡ true → Has (filter p xs) a
  Has-filter p [] a h t = absurd h
  Has-filter p (x ∷ xs) a (inl e) t = cond_has (p x) x (filter p xs) a (inr (e, ap p e ∙ t))
  Has-filter p (x ∷ xs) a (inr h) t = cond_has (p x) x (filter p xs) a (inl (Has-filter p xs a h t))

  pub Has-from_filter : (p : A → Bool) (xs : List A) (a : A) → Has (filter p xs) a → Has xs a × (p a ≡ true)
  Has-from_filter p [] a h = absurd h
  Has-from_filter p (x ∷ xs) a h = elim (has_cond (p x) x (filter p xs) a h) [
    | inl k ↦ (let b = Has-from_filter p xs a k in (inr b.0, b.1))
    | inr k ↦ (inl k.0, sym (ap p k.0) ∙ k.1)
  ]

  -- where nothing passes, no member does
  pub filter_none : (p : A → Bool) (xs : List A) → filter p xs ≡ [] → (a : A) → Has xs a → p a ≡ false
  filter_none p xs none a h = by (p a) refl
    where
      by : (b : Bool) → p a ≡ b → p a ≡ false
      by true t = absurd (subst (λ z. Has z a) none (Has-filter p xs a h t))
      by false t = t

module _ {A B : Type 0} (f : A → B) where
  pub Has-map : (xs : List A) (a : A) → Has xs a → Has (map f xs) (f a)
  Has-map [] a h = absurd h
  Has-map (x ∷ xs) a (inl e) = inl (ap f e)
  Has-map (x ∷ xs) a (inr h) = inr (Has-map xs a h)

  pub Has-from_map : (xs : List A) (b : B) → Has (map f xs) b → (a : A) × (Has xs a) × (f a ≡ b)
  Has-from_map [] b h = absurd h
  Has-from_map (x ∷ xs) b (inl e) = (x, inl refl, e)
  Has-from_map (x ∷ xs) b (inr h) = let k = Has-from_map xs b h in (k.0, inr k.1, k.2)

  pub map_none : (xs : List A) → map f xs ≡ [] → xs ≡ []
  map_none [] h = refl
  map_none (x ∷ xs) h = let bad : f x ∷ map f xs ≡ [] = h in cc

-- ---- names

or_true : (a b : Bool) → (a || b) ≡ true → (a ≡ true) ⊎ (b ≡ true)
or_true true b h = inl refl
or_true false b h = inr h

pub or_left : (a b : Bool) → a ≡ true → (a || b) ≡ true
or_left true b h = refl
or_left false b h = absurd (true≢false (sym h))

pub or_right : (a b : Bool) → b ≡ true → (a || b) ≡ true
or_right true b h = refl
or_right false b h = h

pub not_true : (b : Bool) → (b ≡ true → ⊥) → b ≡ false
not_true true h = absurd (h refl)
not_true false h = refl

pub same_path : (x y : List ℕ) → bytes_eq x y ≡ true → x ≡ y
same_path x y h = (bytes_eq-Decides x y).0 h

pub path_same : (x y : List ℕ) → x ≡ y → bytes_eq x y ≡ true
path_same x y h = (bytes_eq-Decides x y).1 h

pub Has-from_any : (x : List ℕ) (names : List (List ℕ)) → list_any (bytes_eq x) names ≡ true → Has names x
Has-from_any x [] h = absurd (true≢false (sym h))
Has-from_any x (y ∷ ys) h = elim (or_true (bytes_eq x y) (list_any (bytes_eq x) ys) h) [ inl e ↦ inl (sym (same_path x y e)) | inr k ↦ inr (Has-from_any x ys k) ]

pub any_from_Has : (x : List ℕ) (names : List (List ℕ)) → Has names x → list_any (bytes_eq x) names ≡ true
any_from_Has x [] h = absurd h
any_from_Has x (y ∷ ys) (inl e) = or_left (bytes_eq x y) (list_any (bytes_eq x) ys) (path_same x y (sym e))
any_from_Has x (y ∷ ys) (inr h) = or_right (bytes_eq x y) (list_any (bytes_eq x) ys) (any_from_Has x ys h)

-- what is no member is not found
pub none_from_Has : (x : List ℕ) (names : List (List ℕ)) → (Has names x → ⊥) → list_any (bytes_eq x) names ≡ false
none_from_Has x names h = not_true (list_any (bytes_eq x) names) (λ k. h (Has-from_any x names k))

pub Has_none : (x : List ℕ) (names : List (List ℕ)) → list_any (bytes_eq x) names ≡ false → Has names x → ⊥
Has_none x names none h = true≢false (sym (any_from_Has x names h) ∙ none)

-- ---- what holds of each

module _ {A : Type 0} (P : A → Type 0) where
  pub Each-append : (xs ys : List A) → AllByRecursion P xs → AllByRecursion P ys → AllByRecursion P (xs ++ ys)
  Each-append [] ys h k = k
  Each-append (x ∷ xs) ys h k = (h.0, Each-append xs ys h.1 k)

  pub Each-left : (xs ys : List A) → AllByRecursion P (xs ++ ys) → AllByRecursion P xs
  Each-left [] ys h = tt
  Each-left (x ∷ xs) ys h = (h.0, Each-left xs ys h.1)

  pub Each-right : (xs ys : List A) → AllByRecursion P (xs ++ ys) → AllByRecursion P ys
  Each-right [] ys h = h
  Each-right (x ∷ xs) ys h = Each-right xs ys h.1

  pub Each-split : (xs ys : List A) → AllByRecursion P (xs ++ ys) → AllByRecursion P xs × AllByRecursion P ys
  Each-split xs ys h = (Each-left xs ys h, Each-right xs ys h)

pub Each-weaken : {A : Type 0} (P Q : A → Type 0) (xs : List A) → ((x : A) → P x → Q x) → AllByRecursion P xs → AllByRecursion Q xs
Each-weaken P Q [] goes h = tt
Each-weaken P Q (x ∷ xs) goes h = (goes x h.0, Each-weaken P Q xs goes h.1)
