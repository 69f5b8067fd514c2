-- Ranks that are given to nodes of a graph in passes.
use Rattle.std.specs.Prelude.{◌≡◌, ◌⊎◌, ◌<◌, ◌≤◌, ◌+◌, ℕ, List, [], ◌∷◌, length, slice_get, slice_index, Option, Some}
use Rattle.st_type_table.specs.inner.Graph.{Graph, AllRanked, IsClosed, SoFar}

-- all these nodes have ranks
abbrev pub HaveRanks : List ℕ → List ℕ → Type 0
HaveRanks ranks [] = Unit {0}
HaveRanks ranks (i ∷ is) = (0 < slice_index ranks i) × HaveRanks ranks is

-- the node of this number has a rank, or waits for one that has none
abbrev pub IsDone : Graph → List ℕ → ℕ → Type 0
IsDone graph ranks i = (node : Option (List ℕ)) → slice_get graph i ≡ Some node
    → slice_index ranks i ≡ 0 → AllRanked node ranks → ⊥

-- one more has a rank; or nothing has changed, and the node of this number is done
abbrev pub IsRanked : Graph → ℕ → List ℕ → ℕ → List ℕ → ℕ → Type 0
IsRanked graph at ranks count ranks' count' =
    (count' ≡ count + 1) ⊎ ((count' ≡ count) × (ranks' ≡ ranks) × IsDone graph ranks at)

-- a pass that began with this count has come down to the node of this number
pub record IsPass (graph : Graph) (before : ℕ) (ranks : List ℕ) (count at : ℕ) : Type 0 where
  pub so_far : SoFar graph ranks count
  pub more : before ≤ count
  pub within : at ≤ length graph
  pub done : count ≡ before → (i : ℕ) → at ≤ i → IsDone graph ranks i

-- the last pass began with this count, and so many have ranks now
pub record IsSettling (graph : Graph) (ranks : List ℕ) (count more : ℕ) : Type 0 where
  pub so_far : SoFar graph ranks more
  pub rises : count ≤ more
  pub closed : more ≡ count → IsClosed graph ranks
