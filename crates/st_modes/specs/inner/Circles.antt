-- Rules and clauses as a graph of what they cite, by numbers.
use Rattle.std.specs.Prelude.{◌≡◌, ◌↔◌, ℕ, ◌+◌, Bool, true, false, nat_eq, List, [], ◌∷◌, ◌++◌, set, length, slice_get, slice_index_or, option_to_list, unwrap_or, option_map, Option, Some, None, Contains}
use Rattle.std.specs.List.{list_any, flat_map}
use Rattle.st_il.specs.declared.definition.Il.{Il}
use Rattle.st_il.specs.declared.definition.IlDef.{IlDef}
use Rattle.st_il.specs.declared.definition.IlDef.TheVariants as def
use Rattle.st_il.specs.Names.{Name, has_name}
use Rattle.st_semantics.specs.ModeRules.{Citer, Relation, Function, cited_by_rule, cited_by_clause, Leads}
use Rattle.st_modes.specs.declared.citers.Citers.{Citers}
use Rattle.st_modes.specs.declared.circles.Circles.{Circles}
use Rattle.st_order.specs.inner.Index.{names_in, number_in}

-- ---- numbers

-- what a definition is a rule or a clause of
abbrev pub citer_of : IlDef → Option Citer
citer_of (def.Rule r) = Some (Relation r.relation)
citer_of (def.Clause c) = Some (Function c.fun)
citer_of definition = None

-- what it cites as a rule or a clause
abbrev pub cited_in : IlDef → List Citer
cited_in (def.Rule r) = cited_by_rule r
cited_in (def.Clause c) = cited_by_clause c
cited_in definition = []

-- what it is a rule or a clause of is one of these
abbrev pub knows : Citers → IlDef → Bool
knows citers (def.Rule r) = has_name (names_in citers.relations.keys) r.relation
knows citers (def.Clause c) = has_name (names_in citers.functions.keys) c.fun
knows citers definition = true

-- this holds of all these definitions
abbrev pub KnowsAll : Citers → List IlDef → Type 0
KnowsAll citers defs = (d : IlDef) → Contains defs d → knows citers d ≡ true

-- how many there are
abbrev pub count_of : Citers → ℕ
count_of citers = length citers.relations.keys + length citers.functions.keys

-- the number of a relation, or behind these that of a function
abbrev pub number_of : Citers → Citer → Option ℕ
number_of citers (Relation name) = number_in citers.relations.keys name
number_of citers (Function name) =
    option_map (λ (i : ℕ). length citers.relations.keys + i) (number_in citers.functions.keys name)

-- the numbers of those of them that have one
abbrev pub numbers_of : Citers → List Citer → List ℕ
numbers_of citers cited = flat_map (λ (x : Citer). option_to_list (number_of citers x)) cited

-- the number of what there is, if it has one
abbrev pub number_of_owner : Citers → Option Citer → Option ℕ
number_of_owner citers None = None
number_of_owner citers (Some x) = number_of citers x

-- ---- the graph

-- the rows with more in the row of this number
abbrev pub with_row : List (List ℕ) → Option ℕ → List ℕ → List (List ℕ)
with_row rows None more = rows
with_row rows (Some i) more = set rows i (slice_index_or rows i [] ++ more)

-- the rows behind a further definition
abbrev pub with_citations : Citers → List (List ℕ) → IlDef → List (List ℕ)
with_citations citers rows d =
    with_row rows (number_of_owner citers (citer_of d)) (numbers_of citers (cited_in d))

-- the rows behind further definitions
abbrev pub all_citations : Citers → List (List ℕ) → List IlDef → List (List ℕ)
all_citations citers rows [] = rows
all_citations citers rows (d ∷ ds) = all_citations citers (with_citations citers rows d) ds

-- ---- components

-- both are there, and they are the same
abbrev pub are_same : Option ℕ → Option ℕ → Bool
are_same (Some a) (Some b) = nat_eq a b
are_same _ _ = false

-- one of these nodes is in the component of this one
abbrev pub leads_back : List ℕ → ℕ → List ℕ → Bool
leads_back numbers node row =
    list_any (λ (to : ℕ). are_same (slice_get numbers to) (slice_get numbers node)) row

-- an edge leads from the node that there is to one of its own component
abbrev pub is_circular_at : List (List ℕ) → List ℕ → Option ℕ → Bool
is_circular_at rows numbers None = false
is_circular_at rows numbers (Some node) =
    leads_back numbers node (unwrap_or (slice_get rows node) [])

-- an edge leads from a relation to its own component
abbrev pub is_circular : Circles → Name → Bool
is_circular c name =
    is_circular_at c.rows.items c.numbers.items (number_of c.citers (Relation name))

-- it does where the relation cites itself, directly or through others
abbrev pub AreCircles : Il → Circles → Type 0
AreCircles il c =
    (name : Name) → (is_circular c name ≡ true) ↔ Leads il (Relation name) (Relation name)
