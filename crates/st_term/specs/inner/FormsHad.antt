-- What gives records and parts that were left out a form.
use Rattle.std.specs.Prelude.{◌≡◌, ◌⊎◌, ℕ, List, length}
use Rattle.st_il.specs.declared.definition.SyntaxDef.{SyntaxDef}
use Rattle.st_il.specs.declared.ty.Ty.{Ty}
use Rattle.st_il.specs.declared.ty.Ty.TheVariants as ty
use Rattle.st_type_table.specs.Cases.{HasFields}
use Rattle.st_type_table.specs.Meaning.{Means}

-- the named type is a record with so many fields
abbrev pub HasFieldCount : List SyntaxDef → List ℕ → ℕ → Type 0
HasFieldCount defs type count =
    (declared : List (List ℕ × Ty)) × HasFields defs (ty.Name type) declared
    × (count ≡ length declared)

-- the type is a list or an option
abbrev pub IsCollection : List SyntaxDef → Ty → Type 0
IsCollection defs t =
    ((element : Ty) × Means defs t (ty.List element))
    ⊎ ((element : Ty) × Means defs t (ty.Opt element))
