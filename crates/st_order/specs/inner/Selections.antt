-- Premises that were taken, and those that are left.
use Rattle.std.specs.Prelude.{◌≡◌, ℕ, Bool, true, false, List, [], ◌∷◌, ◌++◌, map, find, Option, Some, None}
use Rattle.st_il.specs.declared.definition.Il.{Il}
use Rattle.st_il.specs.Names.{Name}
use Rattle.st_semantics.specs.Variables.{prem_vars}
use Rattle.st_semantics.specs.Executable.{class_of}
use Rattle.st_semantics.specs.OrderOf as told
use Rattle.st_semantics.specs.OrderOf.{but_for, next_in, select}
use Rattle.st_order.specs.declared.class.Class.{Class}
use Rattle.st_order.specs.declared.selection.Numbered.{Numbered}
use Rattle.st_order.specs.declared.selection.Selection.{Selection}
use Rattle.st_order.specs.inner.Index.{names_in, SameNames}
use Rattle.st_order.specs.inner.Classes.{kind, is_kind}

-- a premise with its number
abbrev pub numbered : Numbered → told.Numbered
numbered p = (p.number, p.premise.now)

-- several premises with their numbers
abbrev pub all_numbered : List Numbered → List told.Numbered
all_numbered ps = map numbered ps

-- the first of some premises that can be run in this class
abbrev pub first_of : Il → List Name → Class → List told.Numbered → Option told.Numbered
first_of il bound wanted ps =
    find (λ (p : told.Numbered). is_kind wanted (kind (class_of il bound p.1))) ps

-- the premise is taken, and its variables are bound
pub record Takes (old : Selection) (p : told.Numbered) (new : Selection) : Type 0 where
  pub order : new.order ≡ old.order ++ p.0 ∷ []
  pub left : all_numbered new.left ≡ but_for p.0 (all_numbered old.left)
  pub bound : SameNames (names_in new.bound.keys) (names_in old.bound.keys ++ prem_vars p.1)

-- the next premise that can be run
abbrev pub next_of : Il → Selection → Option told.Numbered
next_of il s = next_in il (names_in s.bound.keys) (all_numbered s.left)

-- the next premise is taken, or there is none
abbrev pub LeadsTo : Il → Selection → Selection → Bool → Type 0
LeadsTo il old new true = (p : told.Numbered) × (next_of il old ≡ Some p) × Takes old p new
LeadsTo il old new false = (next_of il old ≡ None) × (new ≡ old)

-- the same order, the same premises left, and the same names bound
pub record IsSelection (s : Selection) (t : told.Selection) : Type 0 where
  pub order : s.order ≡ t.order
  pub left : all_numbered s.left ≡ t.left
  pub bound : SameNames (names_in s.bound.keys) t.bound

-- what is taken from here on, n premises at most, leads to this selection
pub record Continues (il : Il) (n : ℕ) (s : Selection) (t : told.Selection) : Type 0 where
  pub order : t.order ≡ s.order ++ (select il n (names_in s.bound.keys) (all_numbered s.left)).order
  pub left : t.left ≡ (select il n (names_in s.bound.keys) (all_numbered s.left)).left
  pub bound : SameNames t.bound (select il n (names_in s.bound.keys) (all_numbered s.left)).bound
