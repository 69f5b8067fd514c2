-- The last fragment of each syntax.
use Rattle.std.specs.Prelude.{◌≡◌, ◌+◌, ℕ, List, drop, Bool, false, nat_lt, Option, Some, None}
use Rattle.std.specs.Borrow.{Bor}
use Rattle.st_el.specs.declared.definition.Def.{Def}
use Rattle.st_elab_def.specs.Fragments.{has_fragment}
use Rattle.st_ilcheck.specs.Index.{at}

-- the last one, if there is one, stands behind the definition of this number
abbrev pub is_past : ℕ → Option ℕ → Bool
is_past number None = false
is_past number (Some last) = nat_lt number last

-- Of each syntax with fragments among these definitions the number of the last one stands here.
abbrev pub KnowsLast : List Def → List (Bor (List ℕ) × ℕ) → Type 0
KnowsLast defs entries =
    (q : List ℕ) (number : ℕ)
    → has_fragment q (drop (number + 1) defs) ≡ is_past number (at entries q)
