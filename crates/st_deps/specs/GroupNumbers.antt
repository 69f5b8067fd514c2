-- The numbers of groups.
use Rattle.std.specs.Prelude.{◌≡◌, ◌≤◌, ℕ, List, length, slice_get, Some}
use Rattle.st_graph.specs.Reaches.{Reaches}
use Rattle.st_il.specs.declared.definition.Il.{Il}
use Rattle.st_deps.specs.Cited.{Name}
use Rattle.st_deps.specs.Definitions.{declared, Cites}

-- Of each declared name the number of its group. Names with one number reach each other, and none
-- cites a name with a higher one; so those that reach each other have one number.
pub record AreGroupNumbers (il : Il) (numbers : List ℕ) : Type 0 where
  pub size : length numbers ≡ length (declared il)
  pub together : (i j c : ℕ) (x y : Name) → slice_get (declared il) i ≡ Some x
      → slice_get (declared il) j ≡ Some y → slice_get numbers i ≡ Some c
      → slice_get numbers j ≡ Some c → Reaches (Cites il) x y
  pub falls : (i j c d : ℕ) (x y : Name) → slice_get (declared il) i ≡ Some x
      → slice_get (declared il) j ≡ Some y → Cites il x y → slice_get numbers i ≡ Some c
      → slice_get numbers j ≡ Some d → d ≤ c
