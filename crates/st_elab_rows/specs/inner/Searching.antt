-- Where the search for the type of a variable stands.
use Rattle.std.specs.Prelude.{ℕ, List, [], ◌∷◌, map, take, slice_index, nat_eq, if◌then◌else◌}
use Rattle.std.specs.Str.{byte}
use Rattle.st_elab_table.specs.Variables.{unprimed, fronts}

-- the name that remains where this byte of the name is an `_`, or none
abbrev pub remaining_at : ℕ → List ℕ → List (List ℕ)
remaining_at at name =
    if nat_eq (slice_index name at) (byte "_") then unprimed (take at name) ∷ [] else []

-- the names that remain where an `_` stands before this byte
abbrev pub remaining_before : ℕ → List ℕ → List (List ℕ)
remaining_before at name = map unprimed (fronts (take at name))
