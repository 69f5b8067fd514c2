-- Names behind references.
use Rattle.std.specs.Prelude.{List, map}
use Rattle.std.specs.Borrow.{Bor}
use Rattle.st_il.specs.Names.{Name}

-- the names behind references
abbrev pub names_now : List (Bor Name) → List Name
names_now names = map (λ (x : Bor Name). x.now) names
