-- Definitions in rows, by their ranks.
use Rattle.std.specs.Prelude.{◌≡◌, ◌↔◌, ℕ, zero, suc, List, [], ◌∷◌, length, slice_get, slice_index, Option, Some}
use Rattle.st_type_table.specs.inner.Graph.{IsOne}

-- the number of the row of a rank, where it has one
abbrev pub row_number : ℕ → Option (List ℕ)
row_number zero = Some []
row_number (suc rank) = Some (rank ∷ [])

-- in each row stand the numbers of the definitions of one rank, from 1 on
pub record AreRows (ranks : List ℕ) (rows : List (List ℕ)) : Type 0 where
  pub size : length rows ≡ length ranks
  pub exact : (rank : ℕ) (row : List ℕ) → slice_get rows rank ≡ Some row
      → (i : ℕ) → IsOne row i ↔ (slice_index ranks i ≡ suc rank)
