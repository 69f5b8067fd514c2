-- One level of a value, by the meaning of a type.
use Rattle.std.specs.Prelude.{◌≡◌, ℕ, ℤ, pos, negsuc, List, Option, Some, None}
use Rattle.st_il.specs.declared.ty.Ty.{Ty}
use Rattle.st_il.specs.declared.ty.Ty.TheOpen.{Ty-F}
use Rattle.st_il.specs.declared.value.Value.{Value}
use Rattle.st_il.specs.declared.value.Value.TheOpen.{Value-F}
use Rattle.st_il.specs.declared.definition.SyntaxDef.{SyntaxDef}
use Rattle.st_type_table.specs.declared.entry.CaseDef.{CaseDef}
use Rattle.st_type_table.specs.Cases.{HasCases, HasFields, operands_of}
use Rattle.st_type_table.specs.HasType.{HasType, HaveTypes, AllHaveType, FieldsHaveTypes}

-- the type is a variant that has a case with this tag and these operands
pub record HasOperands (defs : List SyntaxDef) (t : Ty) (tag : List ℕ)
    (operands : List Ty) : Type 0 where
  pub cases : List CaseDef
  pub has : HasCases defs t cases
  pub found : operands_of cases tag ≡ Some operands

-- a case with this tag and these operands has the type
pub record CaseHasType (defs : List SyntaxDef) (tag : List ℕ) (parts : List Value)
    (t : Ty) : Type 0 where
  pub operands : List Ty
  pub has : HasOperands defs t tag operands
  pub typed : HaveTypes defs parts operands

-- a record of these fields has the type
pub record RecordHasType (defs : List SyntaxDef) (parts : List (List ℕ × Value))
    (t : Ty) : Type 0 where
  pub declared : List (List ℕ × Ty)
  pub has : HasFields defs t declared
  pub typed : FieldsHaveTypes defs parts declared

-- truth values have the type with this meaning
abbrev pub TruthAt : {X : Type 0} → Ty-F X → Type 0
TruthAt Ty-F.Bool = Unit {0}
TruthAt _ = ⊥

-- an integer is not negative
abbrev pub IsNatural : ℤ → Type 0
IsNatural (pos n) = Unit {0}
IsNatural (negsuc n) = ⊥

-- a number has the type with this meaning
abbrev pub NumberAt : {X : Type 0} → ℤ → Ty-F X → Type 0
NumberAt z Ty-F.Nat = IsNatural z
NumberAt z Ty-F.Int = Unit {0}
NumberAt z _ = ⊥

-- texts have the type with this meaning
abbrev pub TextAt : {X : Type 0} → Ty-F X → Type 0
TextAt Ty-F.Text = Unit {0}
TextAt _ = ⊥

-- a tuple of these parts has the type with this meaning
abbrev pub TupleAt : List SyntaxDef → List Value → Ty-F Ty → Type 0
TupleAt defs parts (Ty-F.Tuple types) = HaveTypes defs parts types
TupleAt defs parts _ = ⊥

-- a list of these elements has the type with this meaning
abbrev pub ListAt : List SyntaxDef → List Value → Ty-F Ty → Type 0
ListAt defs parts (Ty-F.List element) = AllHaveType defs parts element
ListAt defs parts _ = ⊥

-- an option, empty or with a part, has the type with this meaning
abbrev pub OptionAt : List SyntaxDef → Option Value → Ty-F Ty → Type 0
OptionAt defs None (Ty-F.Opt element) = Unit {0}
OptionAt defs (Some part) (Ty-F.Opt element) = HasType defs part element
OptionAt defs _ _ = ⊥

-- the value of this level has the type with this meaning
abbrev pub TypedAt : List SyntaxDef → Value-F Value → Ty-F Ty → Ty → Type 0
TypedAt defs (Value-F.Bool b) u t = TruthAt u
TypedAt defs (Value-F.Num z) u t = NumberAt z u
TypedAt defs (Value-F.Text bytes) u t = TextAt u
TypedAt defs (Value-F.Case tag parts) u t = CaseHasType defs tag parts t
TypedAt defs (Value-F.Fields parts) u t = RecordHasType defs parts t
TypedAt defs (Value-F.Tuple parts) u t = TupleAt defs parts u
TypedAt defs (Value-F.List parts) u t = ListAt defs parts u
TypedAt defs (Value-F.Opt part) u t = OptionAt defs part u
