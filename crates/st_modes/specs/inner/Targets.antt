-- Which of some targets is the first that a name leads to.
use Rattle.std.specs.Prelude.{◌≡◌, ◌≤◌, ◌<◌, ℕ, min, Bool, true, false, List, [], ◌∷◌, ◌++◌, length, take, slice_get, is_some, Option, Some, None}
use Rattle.std.specs.Borrow.{Bor}
use Rattle.st_il.specs.Names.{Name, has_name}
use Rattle.st_order.specs.Known.{at}
use Rattle.st_modes.specs.inner.Reaching.{Reached, AreReached}

-- a number under each of some names
abbrev pub Numbers : Type 0
Numbers = List (Bor (List ℕ) × ℕ)

-- ---- the least number

-- the number of the first member of which this holds, or none
abbrev pub IsLeastOf : (Name → Type 0) → List Name → Option ℕ → Type 0
IsLeastOf P targets None = (j : ℕ) (u : Name) → slice_get targets j ≡ Some u → P u → ⊥
IsLeastOf P targets (Some i) =
    (t : Name) × (slice_get targets i ≡ Some t) × P t
    × ((j : ℕ) (u : Name) → j < i → slice_get targets j ≡ Some u → P u → ⊥)

-- the lesser of two numbers, where they are there
abbrev pub lesser : Option ℕ → Option ℕ → Option ℕ
lesser None other = other
lesser (Some a) None = Some a
lesser (Some a) (Some b) = Some (min a b)

-- the least number that stands under one of these names
abbrev pub least_first : Numbers → List Name → Option ℕ
least_first entries [] = None
least_first entries (n ∷ ns) = lesser (at entries n) (least_first entries ns)

-- ---- the walk

-- what cites one of the names is one of them
abbrev pub IsClosed : (Name → List Name) → List Name → Type 0
IsClosed citing names =
    (p q : Name) → has_name names p ≡ true → has_name (citing p) q ≡ true → has_name names q ≡ true

-- the target and all that leads to it are added behind the names that are there
pub record Spreads (citing : Name → List Name) (old : List Name) (target : Name) (new : List Name) : Type 0 where
  pub reached : AreReached (old ++ target ∷ []) citing new
  pub kept : take (length old) new ≡ old
  pub longer : length old ≤ length new

-- a number where none stands
abbrev pub or_number : Option ℕ → Bool → ℕ → Option ℕ
or_number (Some i) b number = Some i
or_number None true number = Some number
or_number None false number = None

-- under each name that leads to a target stands the number of the first one
abbrev pub AreFirst : (Name → List Name) → List Name → Numbers → Type 0
AreFirst citing targets entries =
    (q : Name) → IsLeastOf (λ t. Reached (t ∷ []) citing q) targets (at entries q)

-- it does, and these are the names under which numbers stand
pub record HasFirst (citing : Name → List Name) (targets names : List Name) (entries : Numbers) : Type 0 where
  pub first : AreFirst citing targets entries
  pub known : (q : Name) → has_name names q ≡ is_some (at entries q)
  pub closed : IsClosed citing names
