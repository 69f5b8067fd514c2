-- How far the walk along edges has come.
use Rattle.std.specs.Prelude.{◌≡◌, ◌⊎◌, ◌≤◌, ◌<◌, ◌+◌, ◌-◌, ◌*◌, ℕ, suc, List, [], ◌∷◌, ◌++◌, length, slice_get, Some, unwrap_or}
use Rattle.st_graph.specs.declared.walk.NodeState.{NodeState}
use Rattle.st_graph.specs.declared.walk.NodeState.TheVariants.{New, Open, Closed}
use Rattle.st_graph.specs.Reaches.{Reaches}
use Rattle.st_graph.specs.Graph.{Edge, Stands}

-- all on the path lead to the node
abbrev pub Leads : List (List ℕ) → List ℕ → ℕ → Type 0
Leads graph path node = (i v : ℕ) → slice_get path i ≡ Some v → Reaches (Edge graph) v node

-- where the last component on the path begins
abbrev pub start_of : List ℕ → ℕ
start_of bounds = unwrap_or (slice_get bounds (length bounds - 1)) 0

-- an edge from a position of the path comes to no component before that of the position
abbrev pub LeadsOn : List ℕ → ℕ → NodeState → Type 0
LeadsOn bounds i New = ⊥
LeadsOn bounds i (Open k) = (b : ℕ) → Stands bounds b → b ≤ i → b ≤ k
LeadsOn bounds i (Closed c) = Unit {0}

-- the edge is followed: where it leads is begun, in no component before that of the position
abbrev pub IsFollowed : List NodeState → List ℕ → ℕ → ℕ → Type 0
IsFollowed states bounds i y = (p : NodeState) × ((slice_get states y ≡ Some p) × LeadsOn bounds i p)

-- each is less than those behind it
abbrev pub IsRising : List ℕ → Type 0
IsRising bounds =
    (k l x y : ℕ) → k < l → slice_get bounds k ≡ Some x → slice_get bounds l ≡ Some y → x < y

-- the path: its components stand one behind another
pub record IsPath (graph : List (List ℕ)) (states : List NodeState) (path bounds : List ℕ) : Type 0 where
  -- the path and the states agree
  pub on_path : (i v : ℕ) → slice_get path i ≡ Some v → slice_get states v ≡ Some (Open i)
  pub is_open : (i v : ℕ) → slice_get states v ≡ Some (Open i) → slice_get path i ≡ Some v
  -- what stands on the path leads to what stands behind it, and within a component back
  pub forward : (i j v u : ℕ) → i ≤ j → slice_get path i ≡ Some v → slice_get path j ≡ Some u
      → Reaches (Edge graph) v u
  pub back : (i v u : ℕ) → slice_get path i ≡ Some v → slice_get path (suc i) ≡ Some u
      → Stands bounds (suc i) ⊎ Reaches (Edge graph) u v
  -- bounds rise, and lie on the path
  pub bounds_rise : IsRising bounds
  pub bounds_within : (b : ℕ) → Stands bounds b → b < length path

-- the edges that wait
pub record IsWaiting (graph : List (List ℕ)) (states : List NodeState) (path bounds : List ℕ)
    (waiting : List (ℕ × ℕ)) : Type 0 where
  -- what waits is an edge from the path, that of later positions behind
  pub waits : (i y : ℕ) → Stands waiting (i, y)
      → (v : ℕ) × ((slice_get path i ≡ Some v) × Edge graph v y)
  pub rise : (k l i j y z : ℕ) → k ≤ l → slice_get waiting k ≡ Some (i, y)
      → slice_get waiting l ≡ Some (j, z) → i ≤ j
  -- an edge from the path waits, or is followed
  pub followed : (i v y : ℕ) → slice_get path i ≡ Some v → Edge graph v y
      → Stands waiting (i, y) ⊎ IsFollowed states bounds i y

-- the components that are closed
pub record AreClosed (graph : List (List ℕ)) (states : List NodeState) (count : ℕ) : Type 0 where
  pub within : (i c : ℕ) → slice_get states i ≡ Some (Closed c) → c < count
  pub together : (i j c : ℕ) → slice_get states i ≡ Some (Closed c)
      → slice_get states j ≡ Some (Closed c) → Reaches (Edge graph) i j
  pub falls : (i j c : ℕ) → slice_get states i ≡ Some (Closed c) → Edge graph i j
      → (d : ℕ) × ((slice_get states j ≡ Some (Closed d)) × (d ≤ c))

pub record IsWalk (graph : List (List ℕ)) (states : List NodeState) (path bounds : List ℕ)
    (waiting : List (ℕ × ℕ)) (count : ℕ) : Type 0 where
  pub size : length states ≡ length graph
  pub path_is : IsPath graph states path bounds
  pub waiting_is : IsWaiting graph states path bounds waiting
  pub closed_is : AreClosed graph states count

-- what a node costs that is not begun: its edges are met twice
abbrev pub cost_of : NodeState → List ℕ → ℕ
cost_of New row = 3 + 2 * length row
cost_of state row = 0

abbrev pub costs : List NodeState → List (List ℕ) → ℕ
costs [] graph = 0
costs (p ∷ ps) [] = 0
costs (p ∷ ps) (row ∷ rows) = cost_of p row + costs ps rows

-- a number that falls with each step of the walk
abbrev pub cost : List (List ℕ) → List NodeState → List ℕ → List ℕ → List (ℕ × ℕ) → ℕ
cost graph states path bounds waiting =
    costs states graph + (2 * length waiting + (length path + length bounds))

-- bounds are taken off from the end, all of them behind a position
pub record IsCut (at : ℕ) (before after : List ℕ) : Type 0 where
  pub behind : List ℕ
  pub are : before ≡ after ++ behind
  pub far : (b : ℕ) → Stands behind b → at < b

-- of the bounds those up to a position are left
pub record CutsTo (at : ℕ) (before after : List ℕ) : Type 0 where
  pub cut : IsCut at before after
  pub near : (b : ℕ) → Stands after b → b ≤ at

-- What stands on the path from one position to another is in the component of this number; all else is as
-- before.
pub record ClosesTo (path : List ℕ) (start end component : ℕ) (before after : List NodeState) : Type 0 where
  pub size : length after ≡ length before
  pub here : (i v : ℕ) → start ≤ i → i < end → slice_get path i ≡ Some v → v < length before
      → slice_get after v ≡ Some (Closed component)
  pub there : (v : ℕ) (p : NodeState) → slice_get after v ≡ Some p
      → (slice_get before v ≡ Some p)
      ⊎ ((i : ℕ) × ((start ≤ i) × ((slice_get path i ≡ Some v) × (p ≡ Closed component))))

-- the same from a position to the end
abbrev pub Closes : List ℕ → ℕ → ℕ → List NodeState → List NodeState → Type 0
Closes path start component before after = ClosesTo path start (length path) component before after

-- the number of the component of a node in this state
abbrev pub number_at : NodeState → ℕ
number_at New = 0
number_at (Open i) = 0
number_at (Closed c) = c
