-- Names in sets and lists of references.
use Rattle.std.specs.Prelude.{◌≡◌, ℕ, List, map, Option, bytes_eq, position}
use Rattle.std.specs.Borrow.{Bor}
use Rattle.st_il.specs.Names.{Name, has_name}

-- the names that are referred to
abbrev pub names_in : List (Bor (List ℕ)) → List Name
names_in keys = map (λ (key : Bor (List ℕ)). key.now) keys

-- the place of a name among these
abbrev pub number_in : List (Bor (List ℕ)) → Name → Option ℕ
number_in keys q = position (λ (key : Bor (List ℕ)). bytes_eq q key.now) keys

-- the same names are in both
abbrev pub SameNames : List Name → List Name → Type 0
SameNames xs ys = (q : Name) → has_name xs q ≡ has_name ys q
