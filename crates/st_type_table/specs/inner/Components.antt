-- The components of a graph of definitions.
use Rattle.std.specs.Prelude.{◌≡◌, ◌≤◌, ◌<◌, ℕ, List, [], length, slice_get, Option, Some, None}
use Rattle.st_type_table.specs.inner.Graph.{Graph, LeadsAt}
use Rattle.st_type_table.specs.inner.Ranking.{WaitsFor}

-- what a definition leads to, where it does not wait for ever
abbrev pub row_in : Option (List ℕ) → List ℕ
row_in None = []
row_in (Some next) = next

-- each definition leads to definitions of the graph alone
abbrev pub StaysWithin : Graph → Type 0
StaysWithin graph = (i j : ℕ) → WaitsFor graph i j → j < length graph

-- Each definition has the number of its component: those of one number lead to each other, and
-- none leads to one of a higher number.
pub record AreComponents (graph : Graph) (numbers : List ℕ) : Type 0 where
  pub size : length numbers ≡ length graph
  pub together : (i j c : ℕ) → slice_get numbers i ≡ Some c → slice_get numbers j ≡ Some c
      → LeadsAt graph i j
  pub falls : (i j c d : ℕ) → WaitsFor graph i j → slice_get numbers i ≡ Some c
      → slice_get numbers j ≡ Some d → d ≤ c
