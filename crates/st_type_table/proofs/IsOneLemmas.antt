-- Numbers that stand in a list.
use Rattle.std.proofs.Common.{◌≡◌, ◌↔◌, refl, ℕ, zero, suc, ◌<◌, List, [], ◌∷◌, ◌++◌, length, arith, inl, inr, ◌⊎◌}
use Rattle.std.specs.Prelude.{slice_index}
use Rattle.st_type_table.specs.inner.Graph.{IsOne}

more_to : (xs : List ℕ) (y j : ℕ) → IsOne (xs ++ y ∷ []) j → IsOne xs j ⊎ (j ≡ y)
more_to [] y j (inl e) = inr e
more_to [] y j (inr h) = absurd h
more_to (x ∷ xs) y j (inl e) = inl (inl e)
more_to (x ∷ xs) y j (inr h) = by (more_to xs y j h)
  where
    by : IsOne xs j ⊎ (j ≡ y) → IsOne (x ∷ xs) j ⊎ (j ≡ y)
    by (inl h) = inl (inr h)
    by (inr e) = inr e

more_from : (xs : List ℕ) (y j : ℕ) → IsOne xs j ⊎ (j ≡ y) → IsOne (xs ++ y ∷ []) j
more_from [] y j (inl h) = absurd h
more_from [] y j (inr e) = inl e
more_from (x ∷ xs) y j (inl (inl e)) = inl e
more_from (x ∷ xs) y j (inl (inr h)) = inr (more_from xs y j (inl h))
more_from (x ∷ xs) y j (inr e) = inr (more_from xs y j (inr e))

pub one_more : (xs : List ℕ) (y j : ℕ) → IsOne (xs ++ y ∷ []) j ↔ (IsOne xs j ⊎ (j ≡ y))
one_more xs y j = (more_to xs y j, more_from xs y j)

-- what stands at a position is one of the list
pub one-at : (xs : List ℕ) (k : ℕ) → k < length xs → IsOne xs (slice_index xs k)
one-at [] k h = absurd (omega arith)
one-at (x ∷ xs) zero h = inl refl
one-at (x ∷ xs) (suc k) h = inr (one-at xs k (omega arith))
