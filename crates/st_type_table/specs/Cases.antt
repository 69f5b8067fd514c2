-- The cases of a variant, with those of the variants that it names, in order;
-- and the fields of a record.
use Rattle.std.specs.Prelude.{◌≡◌, ℕ, List, [], ◌∷◌, ◌++◌, Option, Some, None, if◌then◌else◌, nat_eq}
use Rattle.std.specs.Cmp.Lexicographic.{pointwise}
use Rattle.st_il.specs.declared.ty.Ty.{Ty}
use Rattle.st_il.specs.declared.ty.Ty.TheVariants as ty
use Rattle.st_il.specs.declared.definition.SyntaxDef.{SyntaxDef}
use Rattle.st_il.specs.declared.definition.Alternative.{Alternative}
use Rattle.st_il.specs.declared.definition.Alternative.TheVariants as alternative
use Rattle.st_type_table.specs.declared.entry.CaseDef.{CaseDef}
use Rattle.st_type_table.specs.Meaning.{Means, alternatives_of, fields_of}

-- the alternatives where there are some given, and else none
abbrev pub or_none : Option (List Alternative) → List Alternative
or_none None = []
or_none (Some alternatives) = alternatives

mutual
  -- An alternative brings these cases: its own, or all of the variant that it names.
  -- What is no variant has none.
  pub data Brings (defs : List SyntaxDef) : Alternative → List CaseDef → Type 0 where
    own : {a : Alternative} {cases : List CaseDef} (tag : List ℕ) (operands : List Ty)
        → a ≡ alternative.Case tag operands → cases ≡ record { tag = tag; operands = operands } ∷ []
        → Brings defs a cases
    included : {a : Alternative} {cases : List CaseDef} (name : List ℕ) (t : Ty)
        → a ≡ alternative.Incl name → Means defs (ty.Name name) t
        → Flatten defs (or_none (alternatives_of defs t)) cases → Brings defs a cases

  -- all these alternatives bring these cases, in order
  pub data Flatten (defs : List SyntaxDef) : List Alternative → List CaseDef → Type 0 where
    none : {cases : List CaseDef} → cases ≡ [] → Flatten defs [] cases
    more : {a : Alternative} {as' : List Alternative} {cases : List CaseDef}
        (first rest : List CaseDef)
        → Brings defs a first → Flatten defs as' rest → cases ≡ first ++ rest
        → Flatten defs (a ∷ as') cases

-- the type is a variant, itself or through aliases, and has these cases
pub record HasCases (defs : List SyntaxDef) (t : Ty) (cases : List CaseDef) : Type 0 where
  pub variant : Ty
  pub alternatives : List Alternative
  pub means : Means defs t variant
  pub declared : alternatives_of defs variant ≡ Some alternatives
  pub flattened : Flatten defs alternatives cases

-- the type is a record, itself or through aliases, and has these fields
pub record HasFields (defs : List SyntaxDef) (t : Ty) (fields : List (List ℕ × Ty)) : Type 0 where
  pub structure : Ty
  pub means : Means defs t structure
  pub declared : fields_of defs structure ≡ Some fields

-- the types of the operands of the case with this tag
abbrev pub operands_of : List CaseDef → List ℕ → Option (List Ty)
operands_of [] tag = None
operands_of (c ∷ cs) tag =
    if pointwise nat_eq c.tag tag then Some c.operands else operands_of cs tag
