-- The dimension of each variable: the shortest chain of iterations round its occurrences.
use Rattle.std.specs.Prelude.{◌≡◌, ℕ, ◌<◌, ◌≤◌, List, [], ◌∷◌, ◌++◌, length, map, filter, All, Option, MatchOption}
use Rattle.std.specs.Ordering.{nat_cmp}
use Rattle.std.specs.Cmp.Lexicographic.{slice_cmp}
use Rattle.std.specs.List.Sorted.{IsStrictlySortedBy}
use Rattle.std.specs.Map.{lookup}
use Rattle.st_num.specs.declared.dim.Kind.{Kind}
use Rattle.st_dims.specs.declared.mention.Occurrence.{Occurrence}
use Rattle.st_dims.specs.declared.mention.Mention.{Mention}
use Rattle.st_num.specs.Names.{same_name}
use Rattle.st_dims.specs.Mentions.{occurrences_in}

-- variables with their dimensions
abbrev pub Table : Type 0
Table = List (List ℕ × List Kind)

-- the chains of the occurrences of a name, in the order of the text
abbrev pub chains_of : List ℕ → List Occurrence → List (List Kind)
chains_of name occurrences =
    map (λ occurrence. occurrence.chain)
    (filter (λ occurrence. same_name name occurrence.name) occurrences)

-- The chain is the shortest of these, and of several shortest ones the first.
pub record IsFirstShortest (chains : List (List Kind)) (chain : List Kind) : Type 0 where
  pub before : List (List Kind)
  pub behind : List (List Kind)
  pub are : chains ≡ before ++ chain ∷ behind
  pub longer : All (λ other. length chain < length other) before
  pub no_shorter : All (λ other. length chain ≤ length other) behind

-- the dimension of a name in a table
abbrev pub dimension_in : Table → List ℕ → Option (List Kind)
dimension_in table name = lookup (same_name name) table

-- A name that occurs has its dimension, and no other name has one.
abbrev pub HasDimensions : List Occurrence → Table → Type 0
HasDimensions occurrences table =
    (name : List ℕ)
    → MatchOption (dimension_in table name)
    (chains_of name occurrences ≡ []) (IsFirstShortest (chains_of name occurrences))

-- the names stand in byte order, each once
abbrev pub IsOrdered : Table → Type 0
IsOrdered table = IsStrictlySortedBy (slice_cmp nat_cmp) (map (λ entry. entry.0) table)

-- the table has the variables with their dimensions, in order
pub record IsTable (mentions : List Mention) (table : Table) : Type 0 where
  pub ordered : IsOrdered table
  pub dimensions : HasDimensions (occurrences_in mentions) table

-- The table is the only one of these mentions.
pub record IsOnlyTable (mentions : List Mention) (table : Table) : Type 0 where
  pub is : IsTable mentions table
  pub only : (other : Table) → IsTable mentions other → other ≡ table
