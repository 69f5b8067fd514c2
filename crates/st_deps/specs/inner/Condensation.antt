-- What groups cite, by their ranks.
use Rattle.std.specs.Prelude.{◌≡◌, ◌≢◌, ◌<◌, ◌==◌, ℕ, List, length, slice_get, option_to_list, if◌then◌else◌, Option, Some, None}
use Rattle.st_graph.specs.Graph.{Edge}
use Rattle.std.specs.List.{flat_map}

-- the rank that there is, unless it is this one
abbrev pub other_than : ℕ → Option ℕ → Option ℕ
other_than group None = None
other_than group (Some rank) = if rank == group then None else Some rank

-- the rank of a definition, unless it is in this group
abbrev pub other_rank : List ℕ → ℕ → ℕ → Option ℕ
other_rank ranks group node = other_than group (slice_get ranks node)

-- the ranks of those definitions that are not in this group
abbrev pub other_ranks : List ℕ → ℕ → List ℕ → List ℕ
other_ranks ranks group nodes =
    flat_map (λ (node : ℕ). option_to_list (other_rank ranks group node)) nodes

-- a definition of the first group cites one of the second, and they are not one group
pub record GroupEdge (graph : List (List ℕ)) (ranks : List ℕ) (a b : ℕ) : Type 0 where
  pub from : ℕ
  pub to : ℕ
  pub edge : Edge graph from to
  pub of_first : slice_get ranks from ≡ Some a
  pub of_second : slice_get ranks to ≡ Some b
  pub apart : b ≢ a

-- The rows have what the first definitions, so many, cite in other groups.
pub record CondensesTo (graph : List (List ℕ)) (ranks : List ℕ) (count done : ℕ)
    (rows : List (List ℕ)) : Type 0 where
  pub size : length rows ≡ count
  pub sound : (a b : ℕ) → Edge rows a b → GroupEdge graph ranks a b
  pub complete : (i j a b : ℕ) → i < done → Edge graph i j → slice_get ranks i ≡ Some a
      → slice_get ranks j ≡ Some b → b ≢ a → Edge rows a b

-- for each group the ranks of the others that it cites
abbrev pub IsCondensation : List (List ℕ) → List ℕ → ℕ → List (List ℕ) → Type 0
IsCondensation graph ranks count rows = CondensesTo graph ranks count (length graph) rows
