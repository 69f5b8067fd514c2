-- The numbers of definitions under their names.
use Rattle.std.specs.Prelude.{◌≡◌, ℕ, List, Bool, Option, Some, None, bytes_eq, position, if◌then◌else◌}
use Rattle.std.specs.Borrow.{Bor}
use Rattle.st_il.specs.Names.{Name}
use Rattle.st_index.specs.Names.{at}

-- what stands under a name once a number is added: what stood there, or else the number, where the
-- name is the one that it is added under
abbrev pub adding : Option ℕ → Bool → ℕ → Option ℕ
adding (Some stood) same number = Some stood
adding None same number = if same then Some number else None

-- under each name stands the number of the first that has it
abbrev pub AreNumbers : {A : Type 0} → (A → Name) → List A → List (Bor (List ℕ) × ℕ) → Type 0
AreNumbers name_of xs entries =
    (q : Name) → at entries q ≡ position (λ x. bytes_eq q (name_of x)) xs
