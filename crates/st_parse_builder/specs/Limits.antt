-- Where the first variable stands that is past a limit.
use Rattle.std.specs.Prelude.{ℕ, List, [], ◌∷◌, map, filter, not, Option, slice_get}
use Rattle.st_num.specs.declared.span.Span.{Span}
use Rattle.st_num.specs.Names.{same_name}
use Rattle.st_parse_builder.specs.Variables.{Occurrence}

-- the first occurrence of each name
abbrev pub first_of_each : List Occurrence → List Occurrence
first_of_each [] = []
first_of_each (first ∷ later) =
    first ∷ filter (λ other. not (same_name other.0 first.0)) (first_of_each later)

-- the place of the first occurrence that has so many other names before it
abbrev pub place_past : ℕ → List Occurrence → Option Span
place_past limit occurring = slice_get (map (λ o. o.1) (first_of_each occurring)) limit
