-- An index of names: under each stands the number of the first item with that name.
use Rattle.std.specs.Prelude.{◌≡◌, ℕ, List, find, slice_get}
use Rattle.std.specs.Option.{option_and_then}
use Rattle.std.specs.Map.{lookup}
use Rattle.st_num.specs.Names.{same_name}

-- what stands under a name leads, in the list of all items, to the first of these with that name
abbrev pub IsNameIndex : {T : Type 0} → (T → List ℕ) → List T → List T → List (List ℕ × ℕ) → Type 0
IsNameIndex name all items entries =
    (q : List ℕ) → option_and_then (slice_get all) (lookup (same_name q) entries) ≡ find (λ item. same_name q (name item)) items
