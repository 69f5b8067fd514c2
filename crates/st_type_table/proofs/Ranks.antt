-- Where nothing leads back to itself, each step leads to a syntax of smaller reach.
use Rattle.std.proofs.Common.{◌≡◌, refl, sym, ap, ◌∙◌, subst, ℕ, ◌+◌, ◌<◌, ◌≤◌, Bool, true, false, ◌&&◌, ◌||◌, List, [], ◌∷◌, ◌⊎◌, if◌then◌else◌, arith, inl, inr}

abbrev pub bit : Bool → ℕ
bit b = if b then 1 else 0

module _ {A : Type 0} (edge : A → A → Bool) where
  -- x leads to y by way of some of these
  abbrev pub leads_via : List A → A → A → Bool
  leads_via [] x y = edge x y
  leads_via (k ∷ ks) x y = leads_via ks x y || (leads_via ks x k && leads_via ks k y)

  -- how many of these x leads to, by way of those
  abbrev pub reach : List A → List A → A → ℕ
  reach all [] x = 0
  reach all (k ∷ ks) x = bit (leads_via all x k) + reach all ks x

-- a member of a list
abbrev pub Between : {A : Type 0} → List A → A → Type 0
Between [] k = ⊥
Between (x ∷ xs) k = (k ≡ x) ⊎ Between xs k

either-true : (a b : Bool) → (a || b) ≡ true → (a ≡ true) ⊎ (b ≡ true)
either-true true b e = inl refl
either-true false b e = inr e

first-true : (a b : Bool) → a ≡ true → (a || b) ≡ true
first-true a b e = cc

second-true : (a b c : Bool) → b ≡ true → c ≡ true → (a || (b && c)) ≡ true
second-true true b c p q = refl
second-true false b c p q = cc

both-true : (a b : Bool) → (a && b) ≡ true → (a ≡ true) × (b ≡ true)
both-true true b e = (refl, e)
both-true false b e = cc

module _ {A : Type 0} (edge : A → A → Bool) where
  -- one step leads
  pub edge_leads : (ks : List A) (x y : A) → edge x y ≡ true → leads_via edge ks x y ≡ true
  edge_leads [] x y e = e
  edge_leads (k ∷ ks) x y e = first-true _ _ (edge_leads ks x y e)

  -- what leads by way of k leads
  pub leads_trans : (ks : List A) (x k y : A) → Between ks k → leads_via edge ks x k ≡ true → leads_via edge ks k y ≡ true → leads_via edge ks x y ≡ true
  leads_trans [] x k y a p q = absurd a
  leads_trans (h ∷ ks) x k y (inl e) p q =
      let to : leads_via edge ks x h ≡ true = to_h (either-true _ _ (ap (leads_via edge (h ∷ ks) x) (sym e) ∙ p)) in
      let from : leads_via edge ks h y ≡ true = from_h (either-true _ _ (ap (λ z. leads_via edge (h ∷ ks) z y) (sym e) ∙ q)) in
      second-true (leads_via edge ks x y) _ _ to from
    where
      to_h : (leads_via edge ks x h ≡ true) ⊎ ((leads_via edge ks x h && leads_via edge ks h h) ≡ true) → leads_via edge ks x h ≡ true
      to_h (inl a) = a
      to_h (inr a) = (both-true (leads_via edge ks x h) (leads_via edge ks h h) a).0

      from_h : (leads_via edge ks h y ≡ true) ⊎ ((leads_via edge ks h h && leads_via edge ks h y) ≡ true) → leads_via edge ks h y ≡ true
      from_h (inl a) = a
      from_h (inr a) = (both-true (leads_via edge ks h h) (leads_via edge ks h y) a).1
  leads_trans (h ∷ ks) x k y (inr a) p q = by (either-true _ _ p) (either-true _ _ q) (leads_trans ks x k y a) (leads_trans ks x k h a) (leads_trans ks h k y a)
    where
      by : (leads_via edge ks x k ≡ true) ⊎ ((leads_via edge ks x h && leads_via edge ks h k) ≡ true) → (leads_via edge ks k y ≡ true) ⊎ ((leads_via edge ks k h && leads_via edge ks h y) ≡ true)
          → (leads_via edge ks x k ≡ true → leads_via edge ks k y ≡ true → leads_via edge ks x y ≡ true)
          → (leads_via edge ks x k ≡ true → leads_via edge ks k h ≡ true → leads_via edge ks x h ≡ true)
          → (leads_via edge ks h k ≡ true → leads_via edge ks k y ≡ true → leads_via edge ks h y ≡ true)
          → leads_via edge (h ∷ ks) x y ≡ true
      by (inl p) (inl q) t u v = first-true (leads_via edge ks x y) (leads_via edge ks x h && leads_via edge ks h y) (t p q)
      by (inl p) (inr q) t u v =
          let b = both-true (leads_via edge ks k h) (leads_via edge ks h y) q in
          second-true (leads_via edge ks x y) (leads_via edge ks x h) (leads_via edge ks h y) (u p b.0) b.1
      by (inr p) (inl q) t u v =
          let b = both-true (leads_via edge ks x h) (leads_via edge ks h k) p in
          second-true (leads_via edge ks x y) (leads_via edge ks x h) (leads_via edge ks h y) b.0 (v b.1 q)
      by (inr p) (inr q) t u v =
          let b = both-true (leads_via edge ks x h) (leads_via edge ks h k) p in
          let d = both-true (leads_via edge ks k h) (leads_via edge ks h y) q in
          second-true (leads_via edge ks x y) (leads_via edge ks x h) (leads_via edge ks h y) b.0 d.1

  module _ (all : List A) where
    one-le : (a b : Bool) → (a ≡ true → b ≡ true) → bit a ≤ bit b
    one-le true b h = subst (λ c. bit true ≤ bit c) (sym (h refl)) (omega arith)
    one-le false true h = omega arith
    one-le false false h = omega arith

    -- what y leads to, x leads to
    reach-le : (ks : List A) (x y : A) → ((k : A) → leads_via edge all y k ≡ true → leads_via edge all x k ≡ true) → reach edge all ks y ≤ reach edge all ks x
    reach-le [] x y h = omega arith
    reach-le (k ∷ ks) x y h =
        let a = one-le (leads_via edge all y k) (leads_via edge all x k) (h k) in
        let b = reach-le ks x y h in
        omega (arith, a, b)

    -- and so y has the smaller reach, where x leads to y and y not to itself
    reach-lt : (ks : List A) (x y : A) → ((k : A) → leads_via edge all y k ≡ true → leads_via edge all x k ≡ true) → Between ks y
        → leads_via edge all x y ≡ true → leads_via edge all y y ≡ false → reach edge all ks y < reach edge all ks x
    reach-lt [] x y h a p q = absurd a
    reach-lt (k ∷ ks) x y h (inl e) p q =
        let to : leads_via edge all x k ≡ true = ap (leads_via edge all x) (sym e) ∙ p in
        let no : leads_via edge all y k ≡ false = ap (leads_via edge all y) (sym e) ∙ q in
        let a : bit (leads_via edge all x k) ≡ 1 = ap bit to in
        let b : bit (leads_via edge all y k) ≡ 0 = ap bit no in
        let c = reach-le ks x y h in
        omega (arith, a, b, c)
    reach-lt (k ∷ ks) x y h (inr m) p q =
        let a = one-le (leads_via edge all y k) (leads_via edge all x k) (h k) in
        let b = reach-lt ks x y h m p q in
        omega (arith, a, b)

    -- a step falls, where nothing leads back to itself
    pub reach-falls : (x y : A) → Between all y → edge x y ≡ true → leads_via edge all y y ≡ false → reach edge all all y < reach edge all all x
    reach-falls x y m e acyclic = reach-lt all x y (λ k q. leads_trans all x y k m (edge_leads all x y e) q) m (edge_leads all x y e) acyclic
