-- What is known of the names in front of an occurrence.
use Rattle.std.specs.Prelude.{◌≡◌, ℕ, ◌≤◌, List, ◌++◌, length, map, Option, Some, MatchOption}
use Rattle.std.specs.Borrow.{Bor}
use Rattle.std.specs.List.{list_any}
use Rattle.st_num.specs.declared.span.Span.{Span}
use Rattle.st_num.specs.Names.{same_name}
use Rattle.st_parse_builder.specs.Variables.{Occurrence}
use Rattle.st_parse_builder.specs.Limits.{first_of_each, place_past}

-- the names that are borrowed as keys
abbrev pub spelled : List (Bor (List ℕ)) → List (List ℕ)
spelled keys = map (λ (key : Bor (List ℕ)). key.now) keys

-- These are the names of the occurrences, each once, and no more than so many.
pub record Knows (limit : ℕ) (before : List Occurrence) (names : List (List ℕ)) : Type 0 where
  -- A name is among them exactly where it occurs.
  pub same : (name : List ℕ)
      → list_any (λ known. same_name name known) names
      ≡ list_any (λ o. same_name name o.0) before
  pub counted : length names ≡ length (first_of_each before)
  pub within : length names ≤ limit

-- what is known behind these occurrences, or the place of the first name that is past the limit
abbrev pub Counted : ℕ → List Occurrence → List (List ℕ) → Option Span → Type 0
Counted limit before names place =
    MatchOption place (Knows limit before names)
    (λ at. (behind : List Occurrence) → place_past limit (before ++ behind) ≡ Some at)
