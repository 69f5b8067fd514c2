-- The places that break a rule on dimensions.
use Rattle.std.specs.Prelude.{◌≡◌, ℕ, List, [], ◌∷◌, length, map, filter, Bool, true, false, not, ◌||◌, nat_lt, Option, Some, None}
use Rattle.std.specs.List.{list_any, starts_with}
use Rattle.st_num.specs.declared.span.Span.{Span}
use Rattle.st_num.specs.declared.dim.Kind.{Kind}
use Rattle.st_num.specs.declared.dim.Kind.TheVariants as kind
use Rattle.st_dims.specs.declared.fault.DimFault.{DimFault}
use Rattle.st_dims.specs.declared.fault.DimFault.TheVariants.{I1, I2, Memory}
use Rattle.st_dims.specs.declared.mention.Occurrence.{Occurrence}
use Rattle.st_dims.specs.declared.mention.Iteration.{Iteration}
use Rattle.st_dims.specs.declared.mention.Mention.{Mention}
use Rattle.st_num.specs.Names.{is_among}
use Rattle.st_dims.specs.Mentions.{occurrences_in, indices_in, iterations_in}
use Rattle.st_dims.specs.Dimensions.{Table, dimension_in, IsOnlyTable}

-- two kinds of iteration are equal
abbrev pub same_kind : Kind → Kind → Bool
same_kind kind.List kind.List = true
same_kind kind.Opt kind.Opt = true
same_kind one other = false

-- the chain begins with the dimension
abbrev pub begins_with : List Kind → Option (List Kind) → Bool
begins_with chain None = false
begins_with chain (Some dimension) = starts_with same_kind chain dimension

-- An occurrence is misplaced where its name is an index, since each body that has it as its index
-- would have taken it, or where its chain does not begin with the dimension of its name.
abbrev pub is_misplaced : List (List ℕ) → Table → Occurrence → Bool
is_misplaced indices table occurrence =
    is_among occurrence.name indices
    || not (begins_with occurrence.chain (dimension_in table occurrence.name))

-- the places of the misplaced occurrences, in the order of the text
abbrev pub misplaced : List (List ℕ) → List Mention → Table → List Span
misplaced indices mentions table =
    map (λ occurrence. occurrence.at)
    (filter (is_misplaced indices table) (occurrences_in mentions))

-- a dimension has more iterations than this
abbrev pub is_longer : ℕ → Option (List Kind) → Bool
is_longer depth None = false
is_longer depth (Some dimension) = nat_lt depth (length dimension)

-- an iteration iterates the variables of its body with more iterations than stand round it
abbrev pub is_idle : Table → Iteration → Bool
is_idle table iteration =
    not (list_any (λ name. is_longer iteration.depth (dimension_in table name)) iteration.names)

-- the places of the iterations that iterate nothing, outer ones first
abbrev pub idle : List Mention → Table → List Span
idle mentions table =
    map (λ iteration. iteration.at) (filter (is_idle table) (iterations_in mentions))

-- the first of these places, or none where there is none
abbrev pub IsFirst : Option Span → List Span → Type 0
IsFirst None places = places ≡ []
IsFirst (Some at) places = (rest : List Span) × (places ≡ at ∷ rest)

-- the places of the occurrences that are misplaced among all that is mentioned
abbrev pub misplaced_in : List Mention → Table → List Span
misplaced_in mentions table = misplaced (indices_in mentions) mentions table

-- no rule on dimensions is broken
pub record IsSound (mentions : List Mention) (table : Table) : Type 0 where
  pub placed : misplaced_in mentions table ≡ []
  pub iterating : idle mentions table ≡ []

-- The first misplaced occurrence, by the dimensions of the variables.
pub record IsMisplaced (mentions : List Mention) (at : Span) : Type 0 where
  pub table : Table
  pub dimensions : IsOnlyTable mentions table
  pub first : IsFirst (Some at) (misplaced_in mentions table)

-- The first iteration that iterates nothing, where no occurrence is misplaced.
pub record IsIdle (mentions : List Mention) (at : Span) : Type 0 where
  pub table : Table
  pub dimensions : IsOnlyTable mentions table
  pub placed : misplaced_in mentions table ≡ []
  pub first : IsFirst (Some at) (idle mentions table)

-- what a fault says: the first misplaced occurrence, or else the first iteration that iterates
-- nothing
abbrev pub IsFault : List Mention → DimFault → Type 0
IsFault mentions (I1 at) = IsMisplaced mentions at
IsFault mentions (I2 at) = IsIdle mentions at
IsFault mentions Memory = Unit {0}
