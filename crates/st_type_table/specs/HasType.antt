-- Which values have which types.
use Rattle.std.specs.Prelude.{◌≡◌, ℕ, ℤ, pos, Bool, List, [], ◌∷◌, Some, None}
use Rattle.st_il.specs.declared.ty.Ty.{Ty}
use Rattle.st_il.specs.declared.ty.Ty.TheVariants as ty
use Rattle.st_il.specs.declared.value.Value.{Value}
use Rattle.st_il.specs.declared.value.Value.TheVariants as value
use Rattle.st_il.specs.declared.definition.SyntaxDef.{SyntaxDef}
use Rattle.st_type_table.specs.declared.entry.CaseDef.{CaseDef}
use Rattle.st_type_table.specs.Meaning.{Means}
use Rattle.st_type_table.specs.Cases.{HasCases, HasFields, operands_of}

mutual
  -- The value has the type. An alias is its meaning.
  pub data HasType (defs : List SyntaxDef) : Value → Ty → Type 0 where
    truth : {v : Value} {t : Ty} (b : Bool) → v ≡ value.Bool b → Means defs t ty.Bool
        → HasType defs v t
    natural : {v : Value} {t : Ty} (n : ℕ) → v ≡ value.Num (pos n) → Means defs t ty.Nat
        → HasType defs v t
    number : {v : Value} {t : Ty} (z : ℤ) → v ≡ value.Num z → Means defs t ty.Int → HasType defs v t
    text : {v : Value} {t : Ty} (bytes : List ℕ) → v ≡ value.Text bytes → Means defs t ty.Text
        → HasType defs v t
    case : {v : Value} {t : Ty} (tag : List ℕ) (parts : List Value) (cases : List CaseDef)
        (operands : List Ty)
        → v ≡ value.Case tag parts → HasCases defs t cases → operands_of cases tag ≡ Some operands
        → HaveTypes defs parts operands → HasType defs v t
    fields : {v : Value} {t : Ty} (parts : List (List ℕ × Value)) (declared : List (List ℕ × Ty))
        → v ≡ value.Fields parts → HasFields defs t declared → FieldsHaveTypes defs parts declared
        → HasType defs v t
    tuple : {v : Value} {t : Ty} (parts : List Value) (types : List Ty)
        → v ≡ value.Tuple parts → Means defs t (ty.Tuple types) → HaveTypes defs parts types
        → HasType defs v t
    list : {v : Value} {t : Ty} (parts : List Value) (element : Ty)
        → v ≡ value.List parts → Means defs t (ty.List element) → AllHaveType defs parts element
        → HasType defs v t
    absent : {v : Value} {t : Ty} (element : Ty) → v ≡ value.Opt None
        → Means defs t (ty.Opt element) → HasType defs v t
    present : {v : Value} {t : Ty} (part : Value) (element : Ty)
        → v ≡ value.Opt (Some part) → Means defs t (ty.Opt element) → HasType defs part element
        → HasType defs v t

  -- each value has the type in its place
  pub data HaveTypes (defs : List SyntaxDef) : List Value → List Ty → Type 0 where
    none : HaveTypes defs [] []
    more : {v : Value} {vs : List Value} {t : Ty} {ts : List Ty} → HasType defs v t
        → HaveTypes defs vs ts → HaveTypes defs (v ∷ vs) (t ∷ ts)

  -- each value has the one type
  pub data AllHaveType (defs : List SyntaxDef) : List Value → Ty → Type 0 where
    no_more : {t : Ty} → AllHaveType defs [] t
    one_more : {v : Value} {vs : List Value} {t : Ty} → HasType defs v t → AllHaveType defs vs t
        → AllHaveType defs (v ∷ vs) t

  -- the fields are those declared, in their order, each with a value of its type
  pub data FieldsHaveTypes (defs : List SyntaxDef) : List (List ℕ × Value) → List (List ℕ × Ty)
      → Type 0 where
    no_field : FieldsHaveTypes defs [] []
    one_field : {f : List ℕ × Value} {fs : List (List ℕ × Value)} {d : List ℕ × Ty}
        {ds : List (List ℕ × Ty)}
        → f.0 ≡ d.0 → HasType defs f.1 d.1 → FieldsHaveTypes defs fs ds
        → FieldsHaveTypes defs (f ∷ fs) (d ∷ ds)
