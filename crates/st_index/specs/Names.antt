-- Names in sets, and what stands under them: what references point to, and what maps hold.
use Rattle.std.specs.Prelude.{◌≡◌, ℕ, List, Bool, ◌&&◌, map, Option, bytes_eq, position}
use Rattle.std.specs.Borrow.{Bor}
use Rattle.std.specs.List.{list_any}
use Rattle.std.specs.Map.{lookup}
use Rattle.st_il.specs.Names.{Name, has_name}

-- what is referred to
abbrev pub all_now : {A : Type 0} → List (Bor A) → List A
all_now refs = map (λ r. r.now) refs

-- the names that are referred to
abbrev pub names_in : List (Bor (List ℕ)) → List Name
names_in keys = map (λ (key : Bor (List ℕ)). key.now) keys

-- the place of a name among these
abbrev pub number_in : List (Bor (List ℕ)) → Name → Option ℕ
number_in keys q = position (λ (key : Bor (List ℕ)). bytes_eq q key.now) keys

-- the same names are in both
abbrev pub SameNames : List Name → List Name → Type 0
SameNames xs ys = (q : Name) → has_name xs q ≡ has_name ys q

-- what stands under the name
abbrev pub at : {A : Type 0} → List (Bor (List ℕ) × A) → Name → Option A
at entries q = lookup (λ (key : Bor (List ℕ)). bytes_eq q key.now) entries

-- the pair of names is one of these
abbrev pub has_pair : List (Bor (List ℕ) × Bor (List ℕ)) → Name → Name → Bool
has_pair keys p q =
    list_any (λ (key : Bor (List ℕ) × Bor (List ℕ)). bytes_eq p key.0.now && bytes_eq q key.1.now)
    keys
