-- Graphs of definitions: the number of a name's definition, and which definitions lead to which.
use Rattle.std.specs.Prelude.{◌≡◌, ◌⊎◌, ◌<◌, ◌≤◌, ◌↔◌, ℕ, zero, suc, Bool, true, false, List, [], ◌∷◌, length, map, slice_get, slice_index, slice_index_or, Option, Some, None, nat_eq, if◌then◌else◌}
use Rattle.std.specs.List.{flat_map}
use Rattle.std.specs.Option.{option_map}
use Rattle.std.specs.Cmp.Lexicographic.{pointwise}
use Rattle.st_il.specs.declared.definition.SyntaxDef.{SyntaxDef}
use Rattle.st_il.specs.declared.ty.Ty.{Ty}
use Rattle.st_il.specs.declared.ty.Ty.TheVariants as ty
use Rattle.st_type_table.specs.Leads.{leads_to, Ends}

-- the number of the first definition of this name
abbrev pub position_of : List SyntaxDef → List ℕ → Option ℕ
position_of [] name = None
position_of (d ∷ ds) name =
    if pointwise nat_eq name d.name then Some 0 else option_map suc (position_of ds name)

-- the number that there is, or none, as a list
abbrev pub one_position : Option ℕ → List ℕ
one_position None = []
one_position (Some position) = position ∷ []

-- the numbers of the definitions of those names that are declared
abbrev pub positions_of : List SyntaxDef → List (List ℕ) → List ℕ
positions_of defs = flat_map (λ name. one_position (position_of defs name))

-- the numbers of the definitions that a definition leads to
abbrev pub node_of : List SyntaxDef → SyntaxDef → Option (List ℕ)
node_of defs d = Some (positions_of defs (leads_to d.body))

-- the graph of definitions, by what each leads to
abbrev pub graph_of : List SyntaxDef → List (Option (List ℕ))
graph_of defs = map (node_of defs) defs

-- the number is one of these
abbrev pub IsOne : List ℕ → ℕ → Type 0
IsOne [] i = ⊥
IsOne (x ∷ xs) i = (i ≡ x) ⊎ IsOne xs i

-- for each definition the numbers of those that it waits for, or none where it waits for ever
abbrev pub Graph : Type 0
Graph = List (Option (List ℕ))

-- All that the definition of this number waits for ends, and so it ends.
pub data EndsAt (graph : Graph) : ℕ → Type 0 where
  ends : {i : ℕ} (next : List ℕ) → slice_get graph i ≡ Some (Some next)
      → ((j : ℕ) → IsOne next j → EndsAt graph j) → EndsAt graph i

-- all that a definition waits for has ranks
abbrev pub AllRanked : Option (List ℕ) → List ℕ → Type 0
AllRanked None ranks = ⊥
AllRanked (Some next) ranks = (j : ℕ) → IsOne next j → 0 < slice_index ranks j

-- The first definition leads to the second, by their numbers.
pub data LeadsAt (graph : Graph) : ℕ → ℕ → Type 0 where
  here : {i k : ℕ} → i ≡ k → LeadsAt graph i k
  step : {i k : ℕ} (next : List ℕ) (j : ℕ) → slice_get graph i ≡ Some (Some next) → IsOne next j
      → LeadsAt graph j k → LeadsAt graph i k

-- the ranks of definitions: 0 where one does not end, else more than those of all that it waits for
pub record AreRanks (graph : Graph) (ranks : List ℕ) : Type 0 where
  pub size : length ranks ≡ length graph
  pub exact : (i : ℕ) → (0 < slice_index ranks i) ↔ EndsAt graph i
  pub bounded : (i : ℕ) → slice_index ranks i ≤ length graph
  pub falls : (i j : ℕ) (next : List ℕ) → 0 < slice_index ranks i
      → slice_get graph i ≡ Some (Some next) → IsOne next j
      → (0 < slice_index ranks j) × (slice_index ranks j < slice_index ranks i)

-- no definition is left that waits for ranked ones alone
abbrev pub IsClosed : Graph → List ℕ → Type 0
IsClosed graph ranks =
    (i : ℕ) (node : Option (List ℕ)) → slice_get graph i ≡ Some node → slice_index ranks i ≡ 0
    → AllRanked node ranks → ⊥

-- how many definitions have a rank
abbrev pub ranked : List ℕ → ℕ
ranked [] = 0
ranked (zero ∷ rs) = ranked rs
ranked (suc r ∷ rs) = suc (ranked rs)

-- These ranks are found so far, and are so many; each way from what is ranked ends, and ranks fall
-- along it.
pub record SoFar (graph : Graph) (ranks : List ℕ) (count : ℕ) : Type 0 where
  pub size : length ranks ≡ length graph
  pub counted : count ≡ ranked ranks
  pub below : (i : ℕ) → slice_index ranks i ≤ count
  pub sound : (i : ℕ) → 0 < slice_index ranks i → EndsAt graph i
  pub falls : (i j : ℕ) (next : List ℕ) → 0 < slice_index ranks i
      → slice_get graph i ≡ Some (Some next) → IsOne next j
      → (0 < slice_index ranks j) × (slice_index ranks j < slice_index ranks i)

-- ---- what leads to a position

-- the definition of this number is marked; one behind the last is not
abbrev pub mark : List Bool → ℕ → Bool
mark marks i = slice_index_or marks i false

-- how many definitions are not marked
abbrev pub unmarked : List Bool → ℕ
unmarked [] = 0
unmarked (true ∷ ms) = unmarked ms
unmarked (false ∷ ms) = suc (unmarked ms)

-- where the type is a name, each way from it ends
abbrev pub EndsIn : List SyntaxDef → Ty → Type 0
EndsIn defs t = (name : List ℕ) → t ≡ ty.Name name → Ends defs name
