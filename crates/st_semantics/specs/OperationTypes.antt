-- Which types operations keep: from which types of the operands to which type.
use Rattle.std.specs.Prelude.{◌≡◌, ℕ, pos, List, [], ◌∷◌, ◌++◌, map, All, Option, Some, None, bytes_eq, if◌then◌else◌}
use Rattle.st_num.specs.Number.{IsNumber}
use Rattle.st_num.specs.Texts.{IsText}
use Rattle.st_il.specs.declared.definition.SyntaxDef.{SyntaxDef}
use Rattle.st_il.specs.declared.expression.IlExp.{IlExp}
use Rattle.st_il.specs.declared.expression.IlExp.TheOpen.{IlExp-F, ListItem-F, PathSeg-F}
use Rattle.st_il.specs.declared.expression.Iteration.{Iteration}
use Rattle.st_il.specs.declared.expression.ListItem.{ListItem, out-ListItem}
use Rattle.st_il.specs.declared.expression.PathSeg.{PathSeg, out-PathSeg}
use Rattle.st_il.specs.declared.ty.NumTy.{NumTy}
use Rattle.st_il.specs.declared.ty.NumTy.TheVariants as numbers
use Rattle.st_il.specs.declared.ty.Ty.{Ty}
use Rattle.st_il.specs.declared.ty.Ty.TheVariants as ty
use Rattle.st_type_table.specs.declared.entry.CaseDef.{CaseDef}
use Rattle.st_type_table.specs.Meaning.{Means}
use Rattle.st_type_table.specs.Cases.{HasCases, HasFields, operands_of}
use Rattle.st_type_table.specs.Joins.{Joins}
use Rattle.st_type_table.specs.Sub.{Sub}
use Rattle.st_il.specs.declared.value.Value.{Value}
use Rattle.st_semantics.specs.declared.outcome.Outcome.TheVariants.{Val}
use Rattle.st_il.specs.Names.{Name}
use Rattle.st_semantics.specs.Environments.{IsTypedValue, AreTypedValues}
use Rattle.st_semantics.specs.Parts.{Operation}

-- the type of the numbers of arithmetic at this type
abbrev pub number_type : NumTy → Ty
number_type numbers.Nat = ty.Nat
number_type numbers.Int = ty.Int

-- the types of two operands of one type, and of what they come to
abbrev pub both : Ty → Ty → Option (List Ty × Ty)
both t u = Some (t ∷ t ∷ [], u)

-- The types of the operands and of the value, where they are the same in each expression of the
-- form.
abbrev pub plain_types : {E K L S : Type 0} → IlExp-F E K L S → Option (List Ty × Ty)
plain_types (IlExp-F.Bool truth) = Some ([], ty.Bool)
plain_types (IlExp-F.Not e) = Some (ty.Bool ∷ [], ty.Bool)
plain_types (IlExp-F.And e g) = both ty.Bool ty.Bool
plain_types (IlExp-F.Or e g) = both ty.Bool ty.Bool
plain_types (IlExp-F.Imp e g) = both ty.Bool ty.Bool
plain_types (IlExp-F.Iff e g) = both ty.Bool ty.Bool
plain_types (IlExp-F.Neg e) = Some (ty.Int ∷ [], ty.Int)
plain_types (IlExp-F.Add type e g) = both (number_type type) (number_type type)
plain_types (IlExp-F.Sub type e g) = both (number_type type) (number_type type)
plain_types (IlExp-F.Mul type e g) = both (number_type type) (number_type type)
plain_types (IlExp-F.Div type e g) = both (number_type type) (number_type type)
plain_types (IlExp-F.Rem type e g) = both (number_type type) (number_type type)
plain_types (IlExp-F.Pow type e g) = Some (number_type type ∷ ty.Nat ∷ [], number_type type)
plain_types _ = None

-- the sides of a comparison have one type; the sides of an order one of numbers
abbrev pub IsCompared : {E K L S : Type 0} → IlExp-F E K L S → Ty → Type 0
IsCompared (IlExp-F.Eq e g) t = Unit {0}
IsCompared (IlExp-F.Ne e g) t = Unit {0}
IsCompared (IlExp-F.Lt e g) t = (n : NumTy) × (t ≡ number_type n)
IsCompared (IlExp-F.Gt e g) t = (n : NumTy) × (t ≡ number_type n)
IsCompared (IlExp-F.Le e g) t = (n : NumTy) × (t ≡ number_type n)
IsCompared (IlExp-F.Ge e g) t = (n : NumTy) × (t ≡ number_type n)
IsCompared _ t = ⊥

-- the type of a part of a list of these elements: one element, or the elements of a list
abbrev pub part_type_at : {E K L S : Type 0} → Ty → ListItem-F E K L S → Ty
part_type_at t (ListItem-F.One e) = t
part_type_at t (ListItem-F.All e) = ty.List t

-- the type of a part of a list of elements of this type
abbrev pub part_type : Ty → ListItem → Ty
part_type t item = part_type_at t (out-ListItem item)

-- the type of the first field of a name
abbrev pub field_type : Name → List (Name × Ty) → Option Ty
field_type name [] = None
field_type name (d ∷ ds) = if bytes_eq name d.0 then Some d.1 else field_type name ds

-- what is read of lists: how long one is, an element, and a part
pub data AccessType {E K L S : Type 0} : IlExp-F E K L S → List Ty → Ty → Type 0 where
  len : {e : E} (t : Ty) → AccessType (IlExp-F.Len e) (ty.List t ∷ []) ty.Nat
  element : {e g : E} (t : Ty) → AccessType (IlExp-F.IlExp::At e g) (ty.List t ∷ ty.Nat ∷ []) t
  part : {e g h : E} (t : Ty)
      → AccessType (IlExp-F.IlExp::Slice e g h) (ty.List t ∷ ty.Nat ∷ ty.Nat ∷ []) (ty.List t)
  cat : {e g : E} (t : Ty)
      → AccessType (IlExp-F.Cat e g) (ty.List t ∷ ty.List t ∷ []) (ty.List t)
  member : {e g : E} (t : Ty)
      → AccessType (IlExp-F.Member e g) (t ∷ ty.List t ∷ []) ty.Bool

-- A path leads from values of a type, with positions of these types, to values of another one. An
-- alias of a list type is one of lists, and a part of a list has the type of the list.
pub data PathType (defs : List SyntaxDef) : List PathSeg → Ty → List Ty → Ty → Type 0 where
  here : {t : Ty} → PathType defs [] t [] t
  field : {s : PathSeg} {ss : List PathSeg} {t w : Ty} {ts : List Ty} (name : Name) (u : Ty)
      (declared : List (Name × Ty)) → out-PathSeg s ≡ PathSeg-F.Field name
      → HasFields defs t declared → field_type name declared ≡ Some u
      → PathType defs ss u ts w → PathType defs (s ∷ ss) t ts w
  element : {s : PathSeg} {ss : List PathSeg} {t w : Ty} {ts : List Ty} (u : Ty) (e : IlExp)
      → out-PathSeg s ≡ PathSeg-F.PathSeg::At e → Means defs t (ty.List u)
      → PathType defs ss u ts w → PathType defs (s ∷ ss) t (ty.Nat ∷ ts) w
  part : {s : PathSeg} {ss : List PathSeg} {t w : Ty} {ts : List Ty} (u : Ty) (e g : IlExp)
      → out-PathSeg s ≡ PathSeg-F.PathSeg::Slice e g → Means defs t (ty.List u)
      → PathType defs ss t ts w → PathType defs (s ∷ ss) t (ty.Nat ∷ ty.Nat ∷ ts) w

-- the level of an expression
abbrev pub Level : Type 0
Level = IlExp-F IlExp Iteration ListItem PathSeg

-- Values made of parts: cases, records, tuples, lists and options. The tags of cases and the names
-- of fields are texts of the language.
pub data ConstructionType (defs : List SyntaxDef) : Level → List Ty → Ty → Type 0 where
  case : {type tag : Name} {es : List IlExp} {ts : List Ty} (cases : List CaseDef) → IsText tag
      → HasCases defs (ty.Name type) cases → operands_of cases tag ≡ Some ts
      → ConstructionType defs (IlExp-F.Case type tag es) ts (ty.Name type)
  fields : {type : Name} {es : List IlExp} (declared : List (Name × Ty))
      → HasFields defs (ty.Name type) declared → All (λ (d : Name × Ty). IsText d.0) declared
      → ConstructionType defs (IlExp-F.Fields type es) (map (λ (d : Name × Ty). d.1) declared)
      (ty.Name type)
  tuple : {es : List IlExp} (ts : List Ty)
      → ConstructionType defs (IlExp-F.Tuple es) ts (ty.Tuple ts)
  list : {t : Ty} {items : List ListItem}
      → ConstructionType defs (IlExp-F.List t items) (map (part_type t) items) (ty.List t)
  empty : {t : Ty} → ConstructionType defs (IlExp-F.Empty t) [] (ty.Opt t)
  present : {e : IlExp} (t : Ty) → ConstructionType defs (IlExp-F.Present e) (t ∷ []) (ty.Opt t)
  absent : {t : Ty} → ConstructionType defs (IlExp-F.Absent t) [] t

-- Records: a field is read, the part at a path is replaced, a list there is extended, and two
-- records are joined.
pub data RecordType (defs : List SyntaxDef) : Level → List Ty → Ty → Type 0 where
  dot : {e : IlExp} {name : Name} {t u : Ty} (declared : List (Name × Ty))
      → HasFields defs t declared → field_type name declared ≡ Some u
      → RecordType defs (IlExp-F.Dot e name) (t ∷ []) u
  set : {e g : IlExp} {path : List PathSeg} {t : Ty} (ts : List Ty) (w : Ty)
      → PathType defs path t ts w → RecordType defs (IlExp-F.Set e path g) (t ∷ (ts ++ w ∷ [])) t
  extend : {e g : IlExp} {path : List PathSeg} {t : Ty} (ts : List Ty) (w u : Ty)
      → PathType defs path t ts w → Means defs w (ty.List u)
      → RecordType defs (IlExp-F.Extend e path g) (t ∷ (ts ++ w ∷ [])) t
  join : {e g : IlExp} (t : Ty) → Joins defs t
      → RecordType defs (IlExp-F.Join e g) (t ∷ t ∷ []) t

-- From operands of these types an expression of this level has values of that type. A literal is a
-- number or a text of the language.
pub data OperationType (defs : List SyntaxDef) : Level → List Ty → Ty → Type 0 where
  plain : {y : Level} {ts : List Ty} {t : Ty} → plain_types y ≡ Some (ts, t)
      → OperationType defs y ts t
  compared : {y : Level} (t : Ty) → IsCompared y t → OperationType defs y (t ∷ t ∷ []) ty.Bool
  number : {n : ℕ} → IsNumber (pos n) → OperationType defs (IlExp-F.Number n) [] ty.Nat
  text : {bytes : Name} → IsText bytes → OperationType defs (IlExp-F.Text bytes) [] ty.Text
  access : {y : Level} {ts : List Ty} {t : Ty} → AccessType y ts t → OperationType defs y ts t
  construction : {y : Level} {ts : List Ty} {t : Ty} → ConstructionType defs y ts t
      → OperationType defs y ts t
  structure : {y : Level} {ts : List Ty} {t : Ty} → RecordType defs y ts t
      → OperationType defs y ts t
  up : {e : IlExp} {t : Ty} (u : Ty) → Sub defs u t
      → OperationType defs (IlExp-F.Up t e) (u ∷ []) t

-- Of values of these types an operation makes only values of that type.
abbrev pub KeepsTypes : List SyntaxDef → Operation → List Ty → Ty → Type 0
KeepsTypes defs f ts t =
    (vs : List Value) (v : Value) → AreTypedValues defs ts vs → f vs ≡ Val v → IsTypedValue defs t v
