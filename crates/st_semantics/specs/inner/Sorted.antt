-- Names in byte order, each once.
use Rattle.std.specs.Prelude.{◌≡◌, true, List, [], ◌∷◌}
use Rattle.std.specs.Ordering.{is_lt}
use Rattle.st_il.specs.Order.{text_cmp}
use Rattle.st_il.specs.Names.{Name, has_name}

-- each name is before all later ones
abbrev pub AreSorted : List Name → Type 0
AreSorted [] = Unit {0}
AreSorted (x ∷ xs) =
    ((y : Name) → has_name xs y ≡ true → is_lt (text_cmp x y) ≡ true) × AreSorted xs
