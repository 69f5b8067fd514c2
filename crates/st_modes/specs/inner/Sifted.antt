-- The members of a list of which a fact holds.
use Rattle.std.specs.Prelude.{List, [], ◌∷◌}

-- the second list has exactly those members of the first of which the fact holds, in order
pub data Sifted {A : Type 0} (P : A → Type 0) : List A → List A → Type 0 where
  none : Sifted P [] []
  kept : (x : A) (xs ys : List A) → P x → Sifted P xs ys → Sifted P (x ∷ xs) (x ∷ ys)
  left_out : (x : A) (xs ys : List A) → (P x → ⊥) → Sifted P xs ys → Sifted P (x ∷ xs) ys
