-- What is kept of an internal language while it is asked: references, what stands under names, and
-- the directions of its relations.
use Rattle.std.specs.Prelude.{◌≡◌, ℕ, List, [], map, Option, bytes_eq, unwrap_or}
use Rattle.std.specs.Borrow.{Bor}
use Rattle.std.specs.Map.{lookup}
use Rattle.st_il.specs.Names.{Name}
use Rattle.st_semantics.specs.Directions.{mask}
use Rattle.st_order.specs.declared.masks.Directions.{Directions}

-- what is referred to
abbrev pub all_now : {A : Type 0} → List (Bor A) → List A
all_now refs = map (λ r. r.now) refs

-- what stands under the name
abbrev pub at : {A : Type 0} → List (Bor (List ℕ) × A) → Name → Option A
at entries q = lookup (λ (key : Bor (List ℕ)). bytes_eq q key.now) entries

-- Under the name of each relation stands which of its holes are inputs; of an undirected one all
-- are, and of one that is not declared none.
abbrev pub AreDirections : Directions → Type 0
AreDirections directions =
    (name : Name) → unwrap_or (at directions.masks.entries name) [] ≡ mask directions.il.now name
