-- Names in sets and under which things stand, as tests of names read them.
use Rattle.std.specs.Prelude.{ℕ, List, Bool, ◌&&◌, Option}
use Rattle.std.specs.Borrow.{Bor}
use Rattle.std.specs.List.{list_any}
use Rattle.std.specs.Map.{lookup}
use Rattle.st_num.specs.Names.{same_name}

-- the name is one of these
abbrev pub has : List (Bor (List ℕ)) → List ℕ → Bool
has keys q = list_any (λ (key : Bor (List ℕ)). same_name q key.now) keys

-- the pair of names is one of these
abbrev pub has_pair : List (Bor (List ℕ) × Bor (List ℕ)) → List ℕ → List ℕ → Bool
has_pair keys p q =
    list_any (λ (key : Bor (List ℕ) × Bor (List ℕ)). same_name p key.0.now && same_name q key.1.now)
    keys

-- what stands under the name
abbrev pub at : {A : Type 0} → List (Bor (List ℕ) × A) → List ℕ → Option A
at entries q = lookup (λ (key : Bor (List ℕ)). same_name q key.now) entries
