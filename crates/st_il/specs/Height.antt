-- The height of a value: 1 without parts, else 1 more than its highest part.
use Rattle.std.specs.Prelude.{ℕ, ◌+◌, max, List, [], ◌∷◌, map, Some, None}
use Rattle.st_il.specs.declared.value.Value.{Value, fold-Value}
use Rattle.st_il.specs.declared.value.Value.TheOpen.{Value-F}

-- the largest of these heights, and 0 where there is none
abbrev pub highest : List ℕ → ℕ
highest [] = 0
highest (h ∷ hs) = max h (highest hs)

-- the height of a level whose parts have these heights
abbrev pub height_at : Value-F ℕ → ℕ
height_at (Value-F.Bool b) = 1
height_at (Value-F.Num n) = 1
height_at (Value-F.Text text) = 1
height_at (Value-F.Case tag parts) = 1 + highest parts
height_at (Value-F.Fields fields) = 1 + highest (map (λ field. field.1) fields)
height_at (Value-F.Tuple parts) = 1 + highest parts
height_at (Value-F.List parts) = 1 + highest parts
height_at (Value-F.Opt None) = 1
height_at (Value-F.Opt (Some part)) = 1 + part

-- the height of a value
abbrev pub height : Value → ℕ
height = fold-Value ℕ height_at

-- the heights of the values of fields
abbrev pub field_heights : List (List ℕ × Value) → List ℕ
field_heights = map (λ (field : List ℕ × Value). height field.1)
