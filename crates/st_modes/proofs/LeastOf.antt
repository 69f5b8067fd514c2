-- The number of the first target of which a fact holds.
use Rattle.std.proofs.Common.{◌≡◌, refl, sym, ◌∙◌, ap, subst, ℕ, zero, suc, ◌+◌, ◌<◌, ◌≤◌, ◌⊎◌, inl, inr, Bool, true, false, List, [], ◌∷◌, ◌++◌, length, min, Option, Some, None, slice_get, nat_le, arith}
use Rattle.std.proofs.lemmas.Bool.Decides.{nat_tests}
use Rattle.std.proofs.lemmas.Option.{slice_get_within}
use Rattle.st_il.specs.Names.{Name}
use Rattle.st_modes.specs.inner.Targets.{IsLeastOf, lesser, or_number}

pub IsLeastOf-none : (P : Name → Type 0) (ts : List Name) → ((t : Name) → P t → ⊥) → IsLeastOf P ts None
IsLeastOf-none P ts n = λ j u g p. n u p

-- the same fact in other words
pub IsLeastOf-as : (P Q : Name → Type 0) → ((t : Name) → P t → Q t) → ((t : Name) → Q t → P t) → (ts : List Name) (o : Option ℕ) → IsLeastOf P ts o → IsLeastOf Q ts o
IsLeastOf-as P Q to from ts None h = λ j u g q. h j u g (from u q)
IsLeastOf-as P Q to from ts (Some i) h = (h.0, h.1, to h.0 h.2, λ j u lt g q. h.3 j u lt g (from u q))

-- ---- one fact or the other

min-cases : (a b : ℕ) → ((min a b ≡ a) × (a ≤ b)) ⊎ ((min a b ≡ b) × (b ≤ a))
min-cases a b = by (nat_le a b) refl
  where
    by : (z : Bool) → nat_le a b ≡ z → ((min a b ≡ a) × (a ≤ b)) ⊎ ((min a b ≡ b) × (b ≤ a))
    by true e = let le : a ≤ b = grind (arith, nat_tests) in inl (omega arith, le)
    by false e = let le : b ≤ a = grind (arith, nat_tests) in inr (omega arith, le)

module _ (P Q : Name → Type 0) (ts : List Name) where
  abbrev Either : Name → Type 0
  Either t = P t ⊎ Q t

  below : (a b : ℕ) → ((j : ℕ) (u : Name) → j < a → slice_get ts j ≡ Some u → P u → ⊥) → ((j : ℕ) (u : Name) → j < b → slice_get ts j ≡ Some u → Q u → ⊥)
      → (j : ℕ) (u : Name) → j < min a b → slice_get ts j ≡ Some u → Either u → ⊥
  below a b h k j u lt g (inl p) = h j u (omega arith) g p
  below a b h k j u lt g (inr q) = k j u (omega arith) g q

  pub IsLeastOf-or : (a b : Option ℕ) → IsLeastOf P ts a → IsLeastOf Q ts b → IsLeastOf (λ t. P t ⊎ Q t) ts (lesser a b)
  IsLeastOf-or None None h k = λ j u g e. neither j u g e
    where
      neither : (j : ℕ) (u : Name) → slice_get ts j ≡ Some u → Either u → ⊥
      neither j u g (inl p) = h j u g p
      neither j u g (inr q) = k j u g q
  IsLeastOf-or None (Some b) h k = (k.0, k.1, inr k.2, λ j u lt g e. neither j u lt g e)
    where
      neither : (j : ℕ) (u : Name) → j < b → slice_get ts j ≡ Some u → Either u → ⊥
      neither j u lt g (inl p) = h j u g p
      neither j u lt g (inr q) = k.3 j u lt g q
  IsLeastOf-or (Some a) None h k = (h.0, h.1, inl h.2, λ j u lt g e. neither j u lt g e)
    where
      neither : (j : ℕ) (u : Name) → j < a → slice_get ts j ≡ Some u → Either u → ⊥
      neither j u lt g (inl p) = h.3 j u lt g p
      neither j u lt g (inr q) = k j u g q
  IsLeastOf-or (Some a) (Some b) h k = by (min-cases a b)
    where
      by : ((min a b ≡ a) × (a ≤ b)) ⊎ ((min a b ≡ b) × (b ≤ a)) → IsLeastOf Either ts (Some (min a b))
      by (inl e) = (h.0, ap (slice_get ts) e.0 ∙ h.1, inl h.2, below a b h.3 k.3)
      by (inr e) = (k.0, ap (slice_get ts) e.0 ∙ k.1, inr k.2, below a b h.3 k.3)

pub lesser-assoc : (a b c : Option ℕ) → lesser (lesser a b) c ≡ lesser a (lesser b c)
lesser-assoc None b c = refl
lesser-assoc (Some a) None c = refl
lesser-assoc (Some a) (Some b) None = refl
lesser-assoc (Some a) (Some b) (Some c) = let e : min (min a b) c ≡ min a (min b c) = omega arith in ap Some e

pub lesser-none : (a : Option ℕ) → lesser a None ≡ a
lesser-none None = refl
lesser-none (Some a) = refl

-- ---- one more target

get_front : (ts : List Name) (t : Name) (j : ℕ) (u : Name) → slice_get ts j ≡ Some u → slice_get (ts ++ t ∷ []) j ≡ Some u
get_front [] t j u g = cc
get_front (x ∷ xs) t zero u g = g
get_front (x ∷ xs) t (suc j) u g = get_front xs t j u g

get_last : (ts : List Name) (t : Name) → slice_get (ts ++ t ∷ []) (length ts) ≡ Some t
get_last [] t = refl
get_last (x ∷ xs) t = get_last xs t

get_cases : (ts : List Name) (t : Name) (j : ℕ) (u : Name) → slice_get (ts ++ t ∷ []) j ≡ Some u → (slice_get ts j ≡ Some u) ⊎ ((j ≡ length ts) × (t ≡ u))
get_cases [] t zero u g = let same : t ≡ u = cc in inr (refl, same)
get_cases [] t (suc j) u g = cc
get_cases (x ∷ xs) t zero u g = inl g
get_cases (x ∷ xs) t (suc j) u g = by (get_cases xs t j u g)
  where
    by : (slice_get xs j ≡ Some u) ⊎ ((j ≡ length xs) × (t ≡ u)) → (slice_get xs j ≡ Some u) ⊎ ((suc j ≡ suc (length xs)) × (t ≡ u))
    by (inl h) = inl h
    by (inr h) = inr (ap suc h.0, h.1)

module _ (P : Name → Type 0) (ts : List Name) (t : Name) where
  before_last : (i : ℕ) → i ≤ length ts → ((j : ℕ) (u : Name) → j < i → slice_get ts j ≡ Some u → P u → ⊥) → (j : ℕ) (u : Name) → j < i → slice_get (ts ++ t ∷ []) j ≡ Some u → P u → ⊥
  before_last i le h j u lt g p = by (get_cases ts t j u g)
    where
      by : (slice_get ts j ≡ Some u) ⊎ ((j ≡ length ts) × (t ≡ u)) → ⊥
      by (inl f) = h j u lt f p
      by (inr f) = let e : j ≡ length ts = f.0 in absurd (omega arith)

  -- what was found stays; else it is the last one, or none
  pub IsLeastOf-more : (o : Option ℕ) (b : Bool) → IsLeastOf P ts o → (o ≡ None → b ≡ true → P t) → (o ≡ None → b ≡ false → P t → ⊥) → IsLeastOf P (ts ++ t ∷ []) (or_number o b (length ts))
  IsLeastOf-more (Some i) b h met unmet =
      let within : i < length ts = slice_get_within ts i h.0 h.1 in
      (h.0, get_front ts t i h.0 h.1, h.2, before_last i (omega arith) h.3)
  IsLeastOf-more None true h met unmet = (t, get_last ts t, met refl refl, before_last (length ts) (omega arith) (λ j u lt g p. h j u g p))
  IsLeastOf-more None false h met unmet = λ j u g p. by j u p (get_cases ts t j u g)
    where
      by : (j : ℕ) (u : Name) → P u → (slice_get ts j ≡ Some u) ⊎ ((j ≡ length ts) × (t ≡ u)) → ⊥
      by j u p (inl f) = h j u f p
      by j u p (inr f) = unmet refl refl (subst P (sym f.1) p)
