-- The listing as the code keeps it.
use Rattle.std.specs.Prelude.{◌<◌, ℕ, List, [], ◌∷◌}
use Rattle.st_graph.specs.Graph.{Stands}
use Rattle.st_deps.specs.declared.listing.Listing.{Listing}
use Rattle.st_deps.specs.inner.Listing as lists

-- the listing is right, so far as it has come, but for these, which are to be settled still
abbrev pub IsListing : List (List ℕ) → Listing → List ℕ → Type 0
IsListing rows l pending =
    lists.IsListing rows l.order.items l.is_listed.items l.met.items l.waiting.items l.ready.keys
    pending

-- the group is the first of those that are to be settled still
abbrev pub CanSettle : List (List ℕ) → Listing → ℕ → Type 0
CanSettle rows l group = (rest : List ℕ) × IsListing rows l (group ∷ rest)

-- the group is settled, where it was the first of those that were to be settled still
abbrev pub Settles : List (List ℕ) → Listing → Listing → ℕ → Type 0
Settles rows before after group =
    (rest : List ℕ) → IsListing rows before (group ∷ rest) → IsListing rows after rest

-- the group was the first of those that are ready
abbrev pub IsTaken : List (List ℕ) → Listing → ℕ → Type 0
IsTaken rows l group =
    lists.IsListing rows l.order.items l.is_listed.items l.met.items l.waiting.items
    (group ∷ l.ready.keys) []
    × ((a : ℕ) → Stands l.ready.keys a → group < a)
