-- An index of names: the number of the first definition of each.
use Rattle.std.specs.Prelude.{◌≡◌, ℕ, List, Bool, Option, Some, None, if◌then◌else◌}
use Rattle.std.specs.Borrow.{Bor}
use Rattle.std.specs.Map.{lookup}
use Rattle.st_num.specs.Names.{same_name}
use Rattle.st_il.specs.declared.definition.SyntaxDef.{SyntaxDef}
use Rattle.st_type_table.specs.inner.Graph.{position_of}

-- names, each with a number
abbrev pub Index : Type 0
Index = List (Bor (List ℕ) × ℕ)

-- the number under the name
abbrev pub number_of : Index → List ℕ → Option ℕ
number_of index name = lookup (λ (key : Bor (List ℕ)). same_name name key.now) index

-- what stands under a name once a number is added: what stood there, or else the number, where the
-- name is the one that it is added under
abbrev pub adding : Option ℕ → Bool → ℕ → Option ℕ
adding (Some stood) same number = Some stood
adding None same number = if same then Some number else None

-- under each name stands the number of its first definition
abbrev pub IsIndex : List SyntaxDef → Index → Type 0
IsIndex defs index = (name : List ℕ) → number_of index name ≡ position_of defs name
