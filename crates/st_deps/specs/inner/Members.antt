-- The names of groups, by their ranks.
use Rattle.std.specs.Prelude.{◌≡◌, ◌<◌, ◌==◌, ℕ, List, [], ◌∷◌, length, slice_get, if◌then◌else◌, Some}
use Rattle.st_deps.specs.Cited.{Name}

-- the names of those of this rank
abbrev pub of_rank : ℕ → List ℕ → List Name → List Name
of_rank c [] names = []
of_rank c (rank ∷ ranks) [] = []
of_rank c (rank ∷ ranks) (name ∷ names) =
    if rank == c then name ∷ of_rank c ranks names else of_rank c ranks names

-- for each group its names, in the order of declaration
pub record AreMembers (names : List Name) (ranks : List ℕ) (count : ℕ) (rows : List (List Name))
    : Type 0 where
  pub size : length rows ≡ count
  pub row : (c : ℕ) → c < count → slice_get rows c ≡ Some (of_rank c ranks names)
