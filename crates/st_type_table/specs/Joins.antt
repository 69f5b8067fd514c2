-- Which record types can be joined: where every field is a list, an option or such a record type.
use Rattle.std.specs.Prelude.{ℕ, List, [], ◌∷◌}
use Rattle.st_il.specs.declared.ty.Ty.{Ty}
use Rattle.st_il.specs.declared.ty.Ty.TheVariants as ty
use Rattle.st_il.specs.declared.definition.SyntaxDef.{SyntaxDef}
use Rattle.st_type_table.specs.Meaning.{Means}
use Rattle.st_type_table.specs.Cases.{HasFields}

mutual
  -- The type is a record that can be joined. A derivation ends, and so there is none for a record
  -- that leads back to itself through records alone.
  pub data Joins (defs : List SyntaxDef) : Ty → Type 0 where
    joins : {t : Ty} (fields : List (List ℕ × Ty)) → HasFields defs t fields → AllJoin defs fields
        → Joins defs t

  -- the type is a list, an option, or a record that can be joined, itself or through aliases
  pub data FieldJoins (defs : List SyntaxDef) : Ty → Type 0 where
    list : {t : Ty} (element : Ty) → Means defs t (ty.List element) → FieldJoins defs t
    option : {t : Ty} (element : Ty) → Means defs t (ty.Opt element) → FieldJoins defs t
    structure : {t : Ty} → Joins defs t → FieldJoins defs t

  -- each of these fields is a list, an option, or a record that can be joined
  pub data AllJoin (defs : List SyntaxDef) : List (List ℕ × Ty) → Type 0 where
    none : AllJoin defs []
    more : {f : List ℕ × Ty} {fs : List (List ℕ × Ty)} → FieldJoins defs f.1 → AllJoin defs fs
        → AllJoin defs (f ∷ fs)
