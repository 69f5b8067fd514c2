-- A variable that is bound to a value.
use Rattle.std.proofs.Common.{◌≡◌, refl, sym, ◌∙◌, ap, [], ◌∷◌, inl, inr, Bool, true, false, ◌||◌, if◌then◌else◌, Some, bytes_eq}
use Rattle.st_il.specs.declared.value.Env.{Env}
use Rattle.st_il.specs.declared.value.Value.{Value}
use Rattle.st_il.specs.Names.{Name, has_name}
use Rattle.st_semantics.specs.Environments.{lookup, value_in}
use Rattle.st_semantics.proofs.Names.{bytes-path, or-cases}
use Rattle.st_match.specs.inner.Fitting.{HasValue}
use Rattle.st_match.specs.inner.Covering.{Names, IsKnown, Covers}

only : (x y : Name) → has_name (x ∷ []) y ≡ true → bytes_eq y x ≡ true
only x y h = elim (or-cases (bytes_eq y x) false h) [ inl p ↦ p | inr p ↦ cc ]

some_is : (u v : Value) → Some u ≡ Some v → u ≡ v
some_is u v e = cc

module _ (x : Name) (v : Value) (e : Env) where
  looked : (s : Env) (y : Name) (u : Value) (t : Bool) → bytes_eq y x ≡ t → ((z : Name) (w : Value) → value_in e z ≡ Some w → value_in s z ≡ Some w) → value_in s x ≡ Some v
      → (if t then Some v else value_in e y) ≡ Some u → value_in s y ≡ Some u
  looked s y u true is below has k = ap (value_in s) (bytes-path y x is) ∙ (has ∙ k)
  looked s y u false is below has k = below y u k

  known : (names : Names) (y : Name) (t : Bool) → ((z : Name) → names z ≡ true → IsKnown e z) → (names y || (t || false)) ≡ true → (u : Value) × ((if t then Some v else value_in e y) ≡ Some u)
  known names y true has k = (v, refl)
  known names y false has k = has y (elim (or-cases (names y) false k) [ inl p ↦ p | inr p ↦ cc ])

  pub HasValue-bound : (longer : Env) → longer.entries ≡ (x, v) ∷ e.entries → Covers (HasValue x v) (has_name (x ∷ [])) (e ∷ []) (longer ∷ [])
  HasValue-bound longer is = record {
    covers = λ s names f a. elim a [
      | inl t ↦ inl (record {
        below = λ y u k. looked s y u (bytes_eq y x) refl t.below f (sym (ap (lookup y) is) ∙ k);
        has = λ y k. let r = known names y (bytes_eq y x) t.has k in (r.0, ap (lookup y) is ∙ r.1);
      })
      | inr t ↦ absurd t
    ];
  }

  pub HasValue-same : (u : Value) → value_in e x ≡ Some u → Covers (HasValue x v) (has_name (x ∷ [])) (e ∷ []) (e ∷ [])
  HasValue-same u h = record {
    covers = λ s names f a. elim a [
      | inl t ↦ inl (record {
        below = t.below;
        has = λ y k. elim (or-cases (names y) (has_name (x ∷ []) y) k) [ inl p ↦ t.has y p | inr p ↦ (u, ap (value_in e) (bytes-path y x (only x y p)) ∙ h) ];
      })
      | inr t ↦ absurd t
    ];
  }

  pub HasValue-other : (u : Value) → value_in e x ≡ Some u → (u ≡ v → ⊥) → Covers (HasValue x v) (has_name (x ∷ [])) (e ∷ []) []
  HasValue-other u h n = record {
    covers = λ s names f a. elim a [
      | inl t ↦ n (some_is u v (sym (t.below x u h) ∙ f))
      | inr t ↦ absurd t
    ];
  }
