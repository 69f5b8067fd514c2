-- What cites what, by numbers.
use Rattle.std.specs.Prelude.{◌≡◌, ℕ, List, length, slice_get, Some, Contains}
use Rattle.st_il.specs.declared.definition.Il.{Il}
use Rattle.st_deps.specs.Cited.{Name}
use Rattle.st_deps.specs.Definitions.{declared, Cites}

-- Each row has the numbers of what the name of its number cites.
pub record IsTable (il : Il) (rows : List (List ℕ)) : Type 0 where
  pub size : length rows ≡ length (declared il)
  pub sound : (i j : ℕ) (row : List ℕ) → slice_get rows i ≡ Some row → Contains row j
      → (x : Name) × ((y : Name) × ((slice_get (declared il) i ≡ Some x)
      × ((slice_get (declared il) j ≡ Some y) × Cites il x y)))
  pub complete : (i j : ℕ) (x y : Name) → slice_get (declared il) i ≡ Some x
      → slice_get (declared il) j ≡ Some y → Cites il x y
      → (row : List ℕ) × ((slice_get rows i ≡ Some row) × Contains row j)
