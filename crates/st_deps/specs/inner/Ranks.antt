-- The ranks of groups: the rank of a group is how many groups begin before it.
use Rattle.std.specs.Prelude.{◌≡◌, ◌<◌, ℕ, List, length, slice_get, Some}
use Rattle.st_graph.specs.Graph.{Stands}

-- The numbers of groups are met in this order, and the rank of each is its place among them.
pub record AreMet (numbers met ranks : List ℕ) : Type 0 where
  pub size : length ranks ≡ length numbers
  pub has_place : (i c : ℕ) → slice_get ranks i ≡ Some c → slice_get met c ≡ slice_get numbers i
  pub within : (i c : ℕ) → slice_get ranks i ≡ Some c → c < length met
  pub distinct : (c d x : ℕ) → slice_get met c ≡ Some x → slice_get met d ≡ Some x → c ≡ d
  pub used : (c : ℕ) → c < length met → Stands ranks c
  pub rising : (i c d : ℕ) → slice_get ranks i ≡ Some d → c < d
      → (j : ℕ) × ((j < i) × (slice_get ranks j ≡ Some c))

-- Of each definition the rank of its group: those of one number have one rank, and before one of a
-- rank stand some of each lower rank.
pub record AreRanks (numbers ranks : List ℕ) (count : ℕ) : Type 0 where
  pub size : length ranks ≡ length numbers
  pub within : (i c : ℕ) → slice_get ranks i ≡ Some c → c < count
  pub number_of : ℕ → ℕ
  pub has_number : (i c : ℕ) → slice_get ranks i ≡ Some c → slice_get numbers i ≡ Some (number_of c)
  pub only : (c d : ℕ) → c < count → d < count → number_of c ≡ number_of d → c ≡ d
  pub used : (c : ℕ) → c < count → Stands ranks c
  pub rising : (i c d : ℕ) → slice_get ranks i ≡ Some d → c < d
      → (j : ℕ) × ((j < i) × (slice_get ranks j ≡ Some c))
