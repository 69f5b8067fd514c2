-- Graphs of numbered nodes, and the numbers of their components. A graph has for each node the
-- numbers of those to which it has an edge.
use Rattle.std.specs.Prelude.{◌≡◌, ◌≤◌, ◌<◌, ℕ, List, length, slice_get, Some}
use Rattle.st_graph.specs.Reaches.{Reaches}

-- this stands in the list, at some position
abbrev pub Stands : {A : Type 0} → List A → A → Type 0
Stands xs x = (k : ℕ) × (slice_get xs k ≡ Some x)

-- the node of the first number has an edge to the one of the second
abbrev pub Edge : List (List ℕ) → ℕ → ℕ → Type 0
Edge graph i j = (row : List ℕ) × ((slice_get graph i ≡ Some row) × Stands row j)

-- each edge leads to a node of the graph
abbrev pub IsWithin : List (List ℕ) → Type 0
IsWithin graph = (i j : ℕ) → Edge graph i j → j < length graph

-- Each node has the number of its component: nodes of one number reach each other, and no edge
-- leads to a higher number. So nodes that reach each other have one number.
pub record IsNumbering (graph : List (List ℕ)) (numbers : List ℕ) (count : ℕ) : Type 0 where
  pub size : length numbers ≡ length graph
  pub within : (i c : ℕ) → slice_get numbers i ≡ Some c → c < count
  pub together : (i j c : ℕ) → slice_get numbers i ≡ Some c → slice_get numbers j ≡ Some c
      → Reaches (Edge graph) i j
  pub falls : (i j c d : ℕ) → Edge graph i j → slice_get numbers i ≡ Some c
      → slice_get numbers j ≡ Some d → d ≤ c
