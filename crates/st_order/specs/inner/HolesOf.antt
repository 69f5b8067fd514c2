-- What stands at the inputs of a relation, or at its outputs.
use Rattle.std.specs.Prelude.{◌≡◌, ℕ, ◌+◌, ◌≤◌, ◌<◌, Bool, true, false, not, List, [], ◌∷◌, length, drop, slice_index_or, Option, Some, None, if◌then◌else◌}
use Rattle.st_semantics.specs.Directions.{inputs_by, outputs_by}

-- the members at the inputs, or else those at the outputs
abbrev pub at_holes : {A : Type 0} → Bool → List Bool → List A → List A
at_holes true inputs xs = inputs_by inputs xs
at_holes false inputs xs = outputs_by inputs xs

-- whether a hole is an input, or else an output, where there is one
abbrev pub is_hole : Bool → Option Bool → Bool
is_hole input None = false
is_hole input (Some is) = if input then is else not is

-- the members at the inputs from this hole on, or else those at the outputs
abbrev pub from_hole : {A : Type 0} → Bool → List Bool → List A → ℕ → List A
from_hole input inputs xs i = at_holes input (drop i inputs) (drop i xs)

-- this is the first input from a hole on, or else the first output; or there is none
abbrev pub IsNextHole : {A : Type 0} → Bool → List Bool → List A → ℕ → Option ℕ → Type 0
IsNextHole input inputs xs from None = from_hole input inputs xs from ≡ []
IsNextHole {A} input inputs xs from (Some i) =
    (from ≤ i) × (i < length xs)
    × ((x : A) → from_hole input inputs xs from
    ≡ slice_index_or xs i x ∷ from_hole input inputs xs (i + 1))
