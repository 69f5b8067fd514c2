-- The printed text of groups of definitions.
use Rattle.std.specs.Prelude.{ℕ, List, [], ◌∷◌, ◌++◌, codes}
use Rattle.std.specs.List.{flat_map}

-- names with a space in front of each
abbrev pub names_text : List (List ℕ) → List ℕ
names_text names = flat_map (λ (name : List ℕ). codes " " ++ name) names

-- the line of a group: its names, with a space between
abbrev pub group_line : List (List ℕ) → List ℕ
group_line [] = codes "\n"
group_line (first ∷ others) = first ++ names_text others ++ codes "\n"

-- the lines of groups
abbrev pub groups_text : List (List (List ℕ)) → List ℕ
groups_text groups = flat_map group_line groups
