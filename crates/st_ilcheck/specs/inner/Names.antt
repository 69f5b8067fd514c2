-- Names in order with an index.
use Rattle.std.specs.Prelude.{◌≡◌, ℕ, zero, suc, List, map, Bool, true, false, ◌&&◌, bytes_eq, Option, Some, None}
use Rattle.std.specs.Borrow.{Bor}
use Rattle.std.specs.List.{list_any}
use Rattle.st_il.specs.Names.{Name}
use Rattle.st_ilcheck.specs.Declarations.{times}
use Rattle.st_ilcheck.specs.Index.{at, has_pair}

-- the names that are borrowed
abbrev pub names_at : List (Bor Name) → List Name
names_at = map (λ (name : Bor Name). name.now)

-- whether what stands so often stands once, where it stands at all
abbrev pub is_single : ℕ → Option Bool
is_single zero = None
is_single (suc zero) = Some true
is_single (suc (suc n)) = Some false

-- under each of these names stands whether it is one of them once
pub record IsCounted (names : List Name) (entries : List (Bor Name × Bool)) : Type 0 where
  pub counted : (q : Name) → at entries q ≡ is_single (times q names)

-- the pairs of names that are borrowed
abbrev pub pairs_at : List (Bor Name × Bor Name) → List (Name × Name)
pairs_at = map (λ (pair : Bor Name × Bor Name). (pair.0.now, pair.1.now))

-- the pair of names is one of those
abbrev pub is_pair : Name → Name → List (Name × Name) → Bool
is_pair p q pairs =
    list_any (λ (pair : Name × Name). bytes_eq p pair.0 && bytes_eq q pair.1) pairs

-- these pairs are found among the keys, and no others
pub record IsKept (pairs : List (Name × Name)) (keys : List (Bor Name × Bor Name))
    : Type 0 where
  pub kept : (p q : Name) → has_pair keys p q ≡ is_pair p q pairs
