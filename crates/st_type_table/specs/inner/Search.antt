-- The search for what leads to a definition, against the arrows of the graph.
use Rattle.std.specs.Prelude.{◌≡◌, ◌⊎◌, ◌<◌, ◌≤◌, ◌↔◌, ◌+◌, ◌*◌, ℕ, Bool, true, false, List, [], ◌∷◌, ◌++◌, length, set, slice_get, Some}
use Rattle.st_type_table.specs.inner.Graph.{Graph, IsOne, LeadsAt, mark, unmarked}
use Rattle.st_type_table.specs.inner.Ranking.{WaitsFor, OnPath, MarksMore}

-- for each definition the numbers of those that lead to it in one step
abbrev pub Arrows : Type 0
Arrows = List (List ℕ)

-- at the position one arrow more is kept, from this definition, where there is such a position
abbrev pub AddsArrow : ℕ → ℕ → Arrows → Arrows → Type 0
AddsArrow position from before after =
    ((length before ≤ position) × (after ≡ before))
    ⊎ ((row : List ℕ) × ((slice_get before position ≡ Some row)
    × (after ≡ set before position (row ++ from ∷ []))))

-- to each of these positions one arrow more is kept, from this definition
pub record AddsArrows (positions : List ℕ) (from : ℕ) (before after : Arrows) : Type 0 where
  pub size : length after ≡ length before
  pub rows : (j : ℕ) (row : List ℕ) → slice_get after j ≡ Some row
      → (old : List ℕ) × ((slice_get before j ≡ Some old)
      × ((i : ℕ) → IsOne row i ↔ (IsOne old i ⊎ ((i ≡ from) × IsOne positions j))))

-- the arrows from the first so many definitions are kept at where they lead
pub record IsReversedTo (graph : Graph) (n : ℕ) (back : Arrows) : Type 0 where
  pub size : length back ≡ length graph
  pub rows : (j : ℕ) (row : List ℕ) → slice_get back j ≡ Some row
      → (i : ℕ) → IsOne row i ↔ ((i < n) × WaitsFor graph i j)

-- all arrows are kept at where they lead
pub record IsReversed (graph : Graph) (back : Arrows) : Type 0 where
  pub size : length back ≡ length graph
  pub rows : (j : ℕ) (row : List ℕ) → slice_get back j ≡ Some row
      → (i : ℕ) → IsOne row i ↔ WaitsFor graph i j

-- How far a search has come: what leads to a marked definition is marked, where that one does not
-- wait in the list.
pub record IsSearch (graph : Graph) (target : ℕ) (marks : List Bool)
    (todo : List ℕ) : Type 0 where
  pub size : length marks ≡ length graph
  pub started : mark marks target ≡ true
  pub sound : (i : ℕ) → mark marks i ≡ true → LeadsAt graph i target
  pub waiting : (i : ℕ) → OnPath todo i → (i < length graph) × (mark marks i ≡ true)
  pub closed : (i j : ℕ) → WaitsFor graph j i → mark marks i ≡ true
      → (mark marks j ≡ true) ⊎ OnPath todo i

-- a definition that was not marked is marked, and waits in the list
abbrev pub MarksOne : ℕ → List Bool → List ℕ → List Bool → List ℕ → Type 0
MarksOne position marks todo marks' todo' =
    ((position < length marks) × ((mark marks position ≡ false)
    × ((marks' ≡ set marks position true) × (todo' ≡ todo ++ position ∷ []))))
    ⊎ ((position < length marks → mark marks position ≡ true) × ((marks' ≡ marks) × (todo' ≡ todo)))

-- those of a row that were not marked are marked, and wait in the list
pub record MarksAll (row : List ℕ) (marks : List Bool) (todo : List ℕ) (marks' : List Bool)
    (todo' : List ℕ) : Type 0 where
  pub size : length marks' ≡ length marks
  pub more : MarksMore marks marks'
  pub all : (j : ℕ) → IsOne row j → j < length marks → mark marks' j ≡ true
  pub fresh : (j : ℕ) → mark marks' j ≡ true
      → (mark marks j ≡ true) ⊎ (IsOne row j × OnPath todo' j)
  pub kept : (i : ℕ) → OnPath todo i → OnPath todo' i
  pub within : (i : ℕ) → OnPath todo' i
      → OnPath todo i ⊎ ((i < length marks) × (mark marks' i ≡ true))
  pub falls : 2 * unmarked marks' + length todo' ≤ 2 * unmarked marks + length todo

-- 1 where a definition is marked, and else 0
abbrev pub as_number : Bool → ℕ
as_number true = 1
as_number false = 0
