-- The one arrangement that words may have, by what stands in front of them.
use Rattle.std.specs.Prelude.{◌≡◌, ℕ, List, [], ◌∷◌, ◌++◌, drop, codes, not, nat_eq, if◌then◌else◌, Bool, true, false, ◌&&◌, ◌||◌, Option, Some, None}
use Rattle.std.specs.List.{starts_with}
use Rattle.std.specs.Cmp.Lexicographic.{pointwise}
use Rattle.st_words.specs.declared.arrangement.Arrangement.{Arrangement}
use Rattle.st_words.specs.declared.name.CommandName.{CommandName}
use Rattle.st_words.specs.Names.{name_spelling}
use Rattle.st_words.specs.Arranged.{begins_with_dash, is_dashed, is_end, plain_words, IsArranged}

-- an arrangement with a plain word more in front
abbrev pub with_plain : List ℕ → Option Arrangement → Option Arrangement
with_plain word (Some rest) = Some (record rest { plain = word ∷ rest.plain })
with_plain word None = None

-- an arrangement with a value of `--fuel` more in front
abbrev pub with_fuel : List ℕ → Option Arrangement → Option Arrangement
with_fuel value (Some rest) = Some (record rest { fuels = value ∷ rest.fuels })
with_fuel value None = None

-- an arrangement with a value of `--depth` more in front
abbrev pub with_depth : List ℕ → Option Arrangement → Option Arrangement
with_depth value (Some rest) = Some (record rest { depths = value ∷ rest.depths })
with_depth value None = None

-- an arrangement with all of another in front
abbrev pub prepended : Arrangement → Option Arrangement → Option Arrangement
prepended given (Some rest) = Some (record {
  plain = given.plain ++ rest.plain;
  fuels = given.fuels ++ rest.fuels;
  depths = given.depths ++ rest.depths;
})
prepended given None = None

-- an option whose value is the word behind it, which does not begin with `-`
abbrev pub as_value : (List ℕ → Option Arrangement → Option Arrangement)
    → List ℕ → Option Arrangement → Option Arrangement
as_value add value rest = if begins_with_dash value then None else add value rest

-- what a word in front makes of the words behind it, of their arrangement, and of what comes where
-- the first of them is its value
abbrev pub in_front : List ℕ → List (List ℕ) → Option Arrangement
    → ((List ℕ → Option Arrangement → Option Arrangement) → Option Arrangement)
    → Option Arrangement
in_front word behind arrangement valued =
    if not (is_dashed word) then with_plain word arrangement
    else if is_end word then Some (plain_words behind)
    else if pointwise nat_eq word (codes "--fuel") then valued with_fuel
    else if pointwise nat_eq word (codes "--depth") then valued with_depth
    else if starts_with nat_eq word (codes "--fuel=") then with_fuel (drop 7 word) arrangement
    else if starts_with nat_eq word (codes "--depth=") then with_depth (drop 8 word) arrangement
    else None

-- the arrangement of words, if they have one
abbrev pub arranged : List (List ℕ) → Option Arrangement
arranged [] = Some (plain_words [])
arranged (word ∷ []) = in_front word [] (Some (plain_words [])) (λ add. None)
arranged (word ∷ next ∷ words) =
    in_front word (next ∷ words) (arranged (next ∷ words))
    (λ add. as_value add next (arranged words))

-- whether a word names an option whose value is the next word
abbrev pub names_option : List ℕ → Bool
names_option word =
    pointwise nat_eq word (codes "--fuel") || pointwise nat_eq word (codes "--depth")

-- whether a word is `-`
abbrev pub is_dash : List ℕ → Bool
is_dash word = pointwise nat_eq word (codes "-")

-- the same, where the first word stands behind one that names an option, or does not
unfoldable pub dash_value_from : Bool → List (List ℕ) → Bool
dash_value_from is_behind [] = false
dash_value_from is_behind (word ∷ words) =
    if is_end word then false
    else if is_behind && is_dash word then true
    else dash_value_from (names_option word) words

-- whether a word `-` stands directly behind `--fuel` or `--depth`, before the first `--`
abbrev pub has_dash_value : List (List ℕ) → Bool
has_dash_value words = dash_value_from false words

-- the words are this name, and others that are arranged so
abbrev pub IsArrangedAs : List (List ℕ) → CommandName → Arrangement → Type 0
IsArrangedAs words name given =
    (behind : List (List ℕ)) × (words ≡ name_spelling name ∷ behind) × IsArranged behind given
