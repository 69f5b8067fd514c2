-- How the table of citations is read off the definitions.
use Rattle.std.specs.Prelude.{◌≡◌, ℕ, List, [], ◌∷◌, ◌++◌, set, length, slice_get, slice_index_or, position, option_to_list, Option, Some, None}
use Rattle.std.specs.List.{flat_map}
use Rattle.st_num.specs.Names.{same_name}
use Rattle.st_graph.specs.Graph.{Edge}
use Rattle.st_il.specs.declared.definition.IlDef.{IlDef}
use Rattle.st_il.specs.declared.definition.Il.{Il}
use Rattle.st_deps.specs.Cited.{Name}
use Rattle.st_deps.specs.Definitions.{names_in, owner, declared, Cites}

-- the number of a name among those known
abbrev pub number_in : List Name → Name → Option ℕ
number_in known name = position (same_name name) known

-- the numbers of those names that are known
abbrev pub numbers_of : List Name → List Name → List ℕ
numbers_of known names = flat_map (λ (name : Name). option_to_list (number_in known name)) names

-- the number of the name that there is, if it is known
abbrev pub number_of_owner : List Name → Option Name → Option ℕ
number_of_owner known None = None
number_of_owner known (Some name) = number_in known name

-- the rows with more in the row of this number
abbrev pub with_row : List (List ℕ) → Option ℕ → List ℕ → List (List ℕ)
with_row graph None more = graph
with_row graph (Some i) more = set graph i (slice_index_or graph i [] ++ more)

-- the rows behind a further definition
abbrev pub with_citations : List Name → List (List ℕ) → IlDef → List (List ℕ)
with_citations known graph d =
    with_row graph (number_of_owner known (owner d)) (numbers_of known (names_in d))

-- the rows behind further definitions
abbrev pub all_citations : List Name → List (List ℕ) → List IlDef → List (List ℕ)
all_citations known graph [] = graph
all_citations known graph (d ∷ ds) = all_citations known (with_citations known graph d) ds

-- each row has the numbers of what the name of its number cites
pub record IsGraph (il : Il) (graph : List (List ℕ)) : Type 0 where
  pub size : length graph ≡ length (declared il)
  pub sound : (i j : ℕ) → Edge graph i j
      → (x : Name) × ((y : Name) × ((slice_get (declared il) i ≡ Some x)
      × ((slice_get (declared il) j ≡ Some y) × Cites il x y)))
  pub complete : (i j : ℕ) (x y : Name) → slice_get (declared il) i ≡ Some x
      → slice_get (declared il) j ≡ Some y → Cites il x y → Edge graph i j
