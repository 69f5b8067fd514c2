-- What stands under names.
use Rattle.std.specs.Prelude.{ℕ, List, [], unwrap_or}
use Rattle.std.specs.Borrow.{Bor}
use Rattle.st_il.specs.Names.{Name}
use Rattle.st_index.specs.Names.{all_now, at}

-- what stands under a name, in order
abbrev pub members : {A : Type 0} → List (Bor (List ℕ) × List (Bor A)) → Name → List A
members entries q = all_now (unwrap_or (at entries q) [])
