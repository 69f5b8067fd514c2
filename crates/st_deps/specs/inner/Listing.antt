-- How far the listing of groups has come. A group is told by its rank.
use Rattle.std.specs.Prelude.{◌≡◌, ◌<◌, ◌⊎◌, ℕ, suc, Bool, true, false, List, [], ◌∷◌, ◌++◌, length, slice_get, Some}
use Rattle.st_graph.specs.Graph.{Edge, Stands}

-- no group leads back to itself: each citation falls
abbrev pub IsFalling : List (List ℕ) → Type 0
IsFalling rows = (height : ℕ → ℕ) × ((a b : ℕ) → Edge rows a b → height b < height a)

-- Behind those before it this group is the next: it is not one of them, all that it cites are, and
-- each of lower rank that is not cites another that is not.
pub record IsNextRank (rows : List (List ℕ)) (before : List ℕ) (a : ℕ) : Type 0 where
  pub within : a < length rows
  pub is_new : Stands before a → ⊥
  pub is_ready : (b : ℕ) → Edge rows a b → Stands before b
  pub no_earlier : (b : ℕ) → b < a → (Stands before b → ⊥)
      → (d : ℕ) × (Edge rows b d × (Stands before d → ⊥))

-- each group is the next behind those before it
abbrev pub AreNext : List (List ℕ) → List ℕ → Type 0
AreNext rows order =
    (before after : List ℕ) (a : ℕ) → order ≡ before ++ a ∷ after → IsNextRank rows before a

-- the order in which groups are listed
pub record IsOrder (rows : List (List ℕ)) (order : List ℕ) : Type 0 where
  pub each : AreNext rows order
  pub whole : (a : ℕ) → a < length rows → Stands order a

-- a group waits for another that it cites and that is not listed
pub record Waits (rows : List (List ℕ)) (listed : List Bool) (waiting : List (List ℕ)) (a : ℕ)
    : Type 0 where
  pub for_which : ℕ
  pub cites : Edge rows a for_which
  pub stands : Edge waiting for_which a
  pub is_open : slice_get listed for_which ≡ Some false

-- So far groups are listed in this order. Those that are not are to be settled still, ready, or
-- wait.
pub record IsListing (rows : List (List ℕ)) (order : List ℕ) (listed : List Bool) (met : List ℕ)
    (waiting : List (List ℕ)) (ready pending : List ℕ) : Type 0 where
  pub listed_size : length listed ≡ length rows
  pub met_size : length met ≡ length rows
  pub waiting_size : length waiting ≡ length rows
  -- what is listed stands in the order
  pub in_order : (a : ℕ) → slice_get listed a ≡ Some true → Stands order a
  pub of_order : (a : ℕ) → Stands order a → slice_get listed a ≡ Some true
  pub each : AreNext rows order
  -- all that a listed group cites is listed, and of others what they have met
  pub closed : (a b : ℕ) → slice_get listed a ≡ Some true → Edge rows a b
      → slice_get listed b ≡ Some true
  pub is_met : (a m k b : ℕ) (row : List ℕ) → slice_get met a ≡ Some m → slice_get rows a ≡ Some row
      → k < m → slice_get row k ≡ Some b → slice_get listed b ≡ Some true
  -- what waits cites what it waits for
  pub waits : (a b : ℕ) → Edge waiting b a → slice_get listed b ≡ Some false → Edge rows a b
  -- all that a ready group cites is listed
  pub is_open : (a : ℕ) → Stands ready a → slice_get listed a ≡ Some false
  pub is_ready : (a b : ℕ) → Stands ready a → Edge rows a b → slice_get listed b ≡ Some true
  pub pends : (a : ℕ) → Stands pending a → slice_get listed a ≡ Some false
  pub others : (a : ℕ) → slice_get listed a ≡ Some false
      → Stands pending a ⊎ (Stands ready a ⊎ Waits rows listed waiting a)

-- how many are not listed
abbrev pub opens : List Bool → ℕ
opens [] = 0
opens (true ∷ listed) = opens listed
opens (false ∷ listed) = suc (opens listed)
