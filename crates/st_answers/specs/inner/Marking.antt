-- What is told of the mark of a relation.
use Rattle.std.specs.Prelude.{◌≡◌, ℕ, List, Option, Some, None, find, slice_get, bytes_eq, MatchOption}
use Rattle.std.specs.Borrow.{Bor}
use Rattle.st_il.specs.declared.definition.RelationDef.{RelationDef}
use Rattle.st_order.specs.Known.{all_now}
use Rattle.st_il.specs.Names.{Name}

-- among these relations the first of a name, by its number, if there is one
abbrev pub IsFirstNamed : List (Bor RelationDef) → Name → Option ℕ → Type 0
IsFirstNamed relations name found =
    MatchOption found (find (λ (r : RelationDef). bytes_eq name r.name) (all_now relations) ≡ None)
    (λ number. (r : RelationDef) × (slice_get (all_now relations) number ≡ Some r)
    × (find (λ (r : RelationDef). bytes_eq name r.name) (all_now relations) ≡ Some r)
    × (r.name ≡ name))
