-- Names in byte order, each once.
use Rattle.std.specs.Prelude.{◌≡◌, ◌≤◌, ℕ, ◌||◌, List, ◌∷◌, ◌++◌, length, take, drop, Option, Some, None, bytes_eq}
use Rattle.st_il.specs.Names.{Name, has_name}
use Rattle.st_semantics.specs.inner.Sorted.{AreSorted}

-- the names stand in order, and a name more is among them
pub record IsInserted (x : Name) (names more : List Name) : Type 0 where
  pub sorted : AreSorted names → AreSorted more
  pub among : (y : Name) → has_name more y ≡ (bytes_eq y x || has_name names y)

-- a name is among these, or comes in at a position
abbrev pub StandsAt : Name → List Name → Option ℕ → Type 0
StandsAt x names None = IsInserted x names names
StandsAt x names (Some at) =
    (at ≤ length names) × IsInserted x names (take at names ++ x ∷ drop at names)

-- the second are the first names in order, each once
pub record AreOrdered (names all : List Name) : Type 0 where
  pub sorted : AreSorted all
  pub among : (x : Name) → has_name all x ≡ has_name names x
