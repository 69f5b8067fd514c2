-- The walk that ranks definitions: those on a path wait, each for the next.
use Rattle.std.specs.Prelude.{◌≡◌, ◌⊎◌, ◌<◌, ◌≤◌, ℕ, suc, Bool, true, false, List, [], ◌∷◌, ◌++◌, length, set, slice_get, slice_index, Option, Some, None, MatchOption, ◌-◌}
use Rattle.st_type_table.specs.inner.Graph.{Graph, IsOne, SoFar, mark}

-- the first of these definitions waits for the second
abbrev pub WaitsFor : Graph → ℕ → ℕ → Type 0
WaitsFor graph i j = (next : List ℕ) × ((slice_get graph i ≡ Some (Some next)) × IsOne next j)

-- the definition stands on the path
abbrev pub OnPath : List ℕ → ℕ → Type 0
OnPath path i = (k : ℕ) × (slice_get path k ≡ Some i)

-- The definition waits for ever, or for what is none, or for one that was seen, has no rank and is
-- not on the path.
abbrev pub IsStuck : Graph → List ℕ → List Bool → List ℕ → ℕ → Type 0
IsStuck graph ranks seen path i =
    (slice_get graph i ≡ Some None)
    ⊎ ((j : ℕ) × (WaitsFor graph i j
    × ((length graph ≤ j)
    ⊎ ((mark seen j ≡ true) × ((slice_index ranks j ≡ 0) × (OnPath path j → ⊥))))))

-- the first so many of these definitions have ranks
abbrev pub RankedTo : List ℕ → List ℕ → ℕ → Type 0
RankedTo next ranks k =
    (m : ℕ) (j : ℕ) → m < k → slice_get next m ≡ Some j → 0 < slice_index ranks j

-- How far a walk has come. Of what each waits for, the first so many as were passed have ranks;
-- those on the path wait, each for the next; and those that were left without a rank are stuck.
pub record IsRanking (graph : Graph) (ranks : List ℕ) (count : ℕ) (seen : List Bool)
    (passed path : List ℕ) : Type 0 where
  pub so_far : SoFar graph ranks count
  pub seen_size : length seen ≡ length graph
  pub passed_size : length passed ≡ length graph
  pub known : (i : ℕ) → 0 < slice_index ranks i → mark seen i ≡ true
  pub over : (i : ℕ) (next : List ℕ) → slice_get graph i ≡ Some (Some next)
      → RankedTo next ranks (slice_index passed i)
  pub on_path : (k i : ℕ) → slice_get path k ≡ Some i
      → (i < length graph) × (mark seen i ≡ true) × (slice_index ranks i ≡ 0)
  pub apart : (k l i : ℕ) → slice_get path k ≡ Some i → slice_get path l ≡ Some i → k ≡ l
  pub chain : (k i j : ℕ) → slice_get path k ≡ Some i → slice_get path (suc k) ≡ Some j
      → WaitsFor graph i j
  pub stuck : (i : ℕ) → mark seen i ≡ true → slice_index ranks i ≡ 0
      → OnPath path i ⊎ IsStuck graph ranks seen path i

-- what was marked is marked still
abbrev pub MarksMore : List Bool → List Bool → Type 0
MarksMore before after = (i : ℕ) → mark before i ≡ true → mark after i ≡ true

-- A walk comes to a definition: it is new and waits at the end of the path, or it was seen or is
-- none, and the path is given up.
abbrev pub ComesTo : List Bool → List ℕ → ℕ → List Bool → List ℕ → Type 0
ComesTo seen path next seen' path' =
    ((next < length seen) × ((mark seen next ≡ false)
    × ((seen' ≡ set seen next true) × (path' ≡ path ++ next ∷ []))))
    ⊎ (((length seen ≤ next) ⊎ (mark seen next ≡ true)) × ((seen' ≡ seen) × (path' ≡ [])))

-- More of what a definition waits for are passed, and the next one has no rank, where there is one.
abbrev pub Advances : List ℕ → List ℕ → ℕ → List ℕ → List ℕ → Option ℕ → Type 0
Advances next ranks top passed passed' found =
    (at : ℕ) × ((passed' ≡ set passed top at) × (RankedTo next ranks at
    × MatchOption found (slice_get next at ≡ None)
    (λ j. (slice_get next at ≡ Some j) × (slice_index ranks j ≡ 0))))

-- The definition is the last on the path, and there is room for one rank more.
pub record IsTop (graph : Graph) (ranks : List ℕ) (passed path : List ℕ)
    (count top : ℕ) : Type 0 where
  pub last : slice_get path (length path - 1) ≡ Some top
  pub in_graph : top < length graph
  pub in_ranks : top < length ranks
  pub in_passed : top < length passed
  pub room : count < length ranks
