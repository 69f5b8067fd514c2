-- What the limits ask of whole definitions: how many variables they have, and how high they are.
use Rattle.std.specs.Prelude.{ℕ, List, [], ◌∷◌, Option, Some, None, nat_lt, if◌then◌else◌}
use Rattle.std.specs.Option.{option_or}
use Rattle.st_num.specs.declared.span.Span.{Span}
use Rattle.st_num.specs.declared.limit.TheConstants.{HIGHEST_TREE, MOST_PREMISES}
use Rattle.st_el.specs.declared.definition.Def.{Def}
use Rattle.st_parse_builder.specs.Variables.{def_variables}
use Rattle.st_parse_builder.specs.Limits.{place_past}
use Rattle.st_parse_builder.specs.DefHeights.{def_height}

-- the first variable that has as many others before it in its definition as there may be
abbrev pub variable_past : Def → Option Span
variable_past d = place_past MOST_PREMISES (def_variables d)

-- the place, where this is the height of a definition that is too high
abbrev pub tall_at : Span → ℕ → Option Span
tall_at at height = if nat_lt HIGHEST_TREE height then Some at else None

-- the place of a definition that has a tree higher than a tree may be, if it has one
abbrev pub too_tall : Def → Option Span
too_tall d = tall_at d.at (def_height d)

-- the first place that these definitions give
abbrev pub first_that : (Def → Option Span) → List Def → Option Span
first_that f [] = None
first_that f (d ∷ ds) = option_or (f d) (first_that f ds)
