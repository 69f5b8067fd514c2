-- What is reached from names over citations, and how far a walk along them has come.
use Rattle.std.specs.Prelude.{◌≡◌, ◌≤◌, ◌+◌, ◌↔◌, ℕ, true, List, [], ◌++◌, length, take, map, unwrap_or}
use Rattle.std.specs.Borrow.{Bor}
use Rattle.st_il.specs.Names.{Name, has_name, without, flattened}
use Rattle.st_order.specs.inner.Index.{names_in, SameNames}
use Rattle.st_order.specs.Known.{at}

-- names that stand under names
abbrev pub Entries : Type 0
Entries = List (Bor (List ℕ) × List (Bor (List ℕ)))

-- the names that stand under a name
abbrev pub cited_under : Entries → Name → List Name
cited_under entries name = names_in (unwrap_or (at entries name) [])

-- the names that stand under any name
abbrev pub all_cited : Entries → List Name
all_cited entries =
    flattened (map (λ (e : Bor (List ℕ) × List (Bor (List ℕ))). names_in e.1) entries)

-- it is one of the first names, or is cited by a name that is reached
pub data Reached (start : List Name) (cited : Name → List Name) : Name → Type 0 where
  first : {q : Name} → has_name start q ≡ true → Reached start cited q
  next : {q : Name} (p : Name) → Reached start cited p → has_name (cited p) q ≡ true
      → Reached start cited q

-- exactly what is reached is among the names
abbrev pub AreReached : List Name → (Name → List Name) → List Name → Type 0
AreReached start cited names = (q : Name) → (has_name names q ≡ true) ↔ Reached start cited q

-- ---- the walk

-- how many members of a list are not among these names
abbrev pub unseen : List Name → List Name → ℕ
unseen names all = length (without names all)

-- These are added behind the names that are there, each once: every name that is added was unseen
-- in each list that has all that were to be added.
pub record Grows (old more new : List Name) : Type 0 where
  pub same : SameNames new (old ++ more)
  pub kept : (n : ℕ) → n ≤ length old → take n new ≡ take n old
  pub longer : length old ≤ length new
  pub fresh : (all : List Name) → ((q : Name) → has_name more q ≡ true → has_name all q ≡ true)
      → unseen new all + length new ≤ unseen old all + length old

-- all that is found is reached, the first names are found, and so is all that is cited by those in
-- front
pub record HasWalked (start : List Name) (cited : Name → List Name) (front : ℕ) (names : List Name) : Type 0 where
  pub sound : (q : Name) → has_name names q ≡ true → Reached start cited q
  pub begun : (q : Name) → has_name start q ≡ true → has_name names q ≡ true
  pub closed : (p q : Name) → has_name (take front names) p ≡ true → has_name (cited p) q ≡ true
      → has_name names q ≡ true
  pub within : front ≤ length names
